pub mod ListSteps
pub mod SchemaSteps
