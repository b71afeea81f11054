pub mod Value
pub mod Reply
