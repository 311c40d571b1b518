pub mod IdLaws
pub mod ListSteps
pub mod ReadingSteps
