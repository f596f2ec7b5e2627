pub mod Spelling
pub mod Meaning
pub mod Spellings
