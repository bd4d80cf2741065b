pub mod Plain
pub mod Filling
pub mod Leads
