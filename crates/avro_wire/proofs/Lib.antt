pub mod Groups
pub mod Numbers
pub mod PutSteps
pub mod Ranges
pub mod WritingLemmas
