pub mod OneAnswer
pub mod Steps
pub mod Host
pub mod Charge
pub mod Demand3
pub mod Listing
pub mod Integers
pub mod Index
