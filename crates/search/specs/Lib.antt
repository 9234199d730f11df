pub mod Search
pub mod Patterns
pub mod Outcome
pub mod Steps
pub mod Walk
pub mod Numbers
pub mod Promises
