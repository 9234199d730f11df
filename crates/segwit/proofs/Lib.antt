pub mod Rules
pub mod Excluded
