pub mod Outcomes
pub mod Excluded
pub mod Codes
pub mod Overlap
