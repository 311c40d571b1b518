pub mod Refusal
pub mod RefusalText
pub mod Field
pub mod Row
pub mod Rows
pub mod Stored
pub mod FieldLaws
