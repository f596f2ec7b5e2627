pub mod Group
pub mod Totals
