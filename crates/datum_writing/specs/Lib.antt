pub mod Canonical
pub mod Writing
pub mod Spelled
