pub mod Rising
pub mod Selecting
pub mod OneSolution
pub mod Firsts
mod Levels
mod Placing
mod Descending
pub mod Apart
pub mod Adding
pub mod Between
pub mod Reaching
pub mod OneEnd
pub mod Joining
pub mod Sweeping
pub mod Occurring
mod Solves
mod OneAnswer
mod Ranges
mod OneRange
