pub mod Turn
pub mod Serve
