pub mod Made
pub mod Build
pub mod Laws
pub mod Stored
pub mod Numbers
pub mod Excluded
