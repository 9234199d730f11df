pub mod Changes
pub mod Holds
pub mod Leftover
pub mod Named
pub mod ReadBack
