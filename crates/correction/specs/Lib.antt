pub mod Locator
pub mod Values
pub mod Promises
