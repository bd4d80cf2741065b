pub mod Putting
pub mod Leads
pub mod Row
