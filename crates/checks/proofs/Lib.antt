mod Walks
pub mod Lawfulness
