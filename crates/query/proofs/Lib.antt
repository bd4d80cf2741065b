pub mod Says
pub mod Examples
