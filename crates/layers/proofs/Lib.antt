pub mod Hulls
pub mod Selections
