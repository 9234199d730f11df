pub mod Cases
pub mod Steps
pub mod Cut
pub mod Machine
pub mod Whole
pub mod Room
pub mod Excluded
