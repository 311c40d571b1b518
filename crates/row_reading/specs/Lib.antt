pub mod Wanted
pub mod File
pub mod Checking
pub mod Checked
pub mod Fault
pub mod Columns
pub mod OwnRows
pub mod Laws
