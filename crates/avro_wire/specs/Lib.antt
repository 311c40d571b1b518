pub mod Number
pub mod Reading
pub mod Blocks
pub mod Writing
pub mod GroupsLaws
pub mod ReadingLaws
pub mod TookLaws
pub mod WritingLaws
