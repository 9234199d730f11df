pub mod Numbers
pub mod Excluded
