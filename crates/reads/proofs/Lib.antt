pub mod Outcomes
pub mod Filled
