mod MapLaws
mod ParseSteps
mod FieldSteps
