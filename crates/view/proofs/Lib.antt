pub mod Fields
pub mod FieldSteps
