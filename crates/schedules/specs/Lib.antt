pub mod Solution
pub mod Range
pub mod Choosing
pub mod Sweeping
pub mod Unmet
pub mod Solving
pub mod Ranging
