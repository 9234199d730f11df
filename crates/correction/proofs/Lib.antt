pub mod Elements
pub mod Verdicts
pub mod OneChange
pub mod Locating
pub mod Refusals
pub mod Examples
