pub mod Leaf
pub mod Reading
pub mod Reached
pub mod Answer
pub mod Calls
