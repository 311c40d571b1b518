pub mod Detail
pub mod Told
