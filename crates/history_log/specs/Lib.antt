pub mod Refusal
pub mod Ids
pub mod Runs
pub mod Request
pub mod Entry
pub mod EntryParts
pub mod Audit
pub mod Auditing
