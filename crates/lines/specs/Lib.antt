pub mod Line
pub mod Reader
pub mod Spelling
