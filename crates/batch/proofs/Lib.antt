pub mod Entries
pub mod Refusals
pub mod Alone
pub mod Excluded
