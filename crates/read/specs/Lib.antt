pub mod Children
pub mod Skim
pub mod Ready
pub mod Leads
