pub mod Flat
pub mod Kept
pub mod Wanted
pub mod AloneLaws
pub mod Nulls
pub mod Record
pub mod Order
