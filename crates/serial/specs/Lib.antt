pub mod Receiving
pub mod Histories
pub mod Links
