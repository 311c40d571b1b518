pub mod Reading
pub mod Grammar
pub mod Steps
pub mod Holds
pub mod Parts
pub mod Puts
pub mod Laws
