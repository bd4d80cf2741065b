pub mod Agrees
pub mod Children
pub mod Going
pub mod Got
pub mod Leads
pub mod Leaves
pub mod Nexts
