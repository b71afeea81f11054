pub mod Fate
pub mod Reader
pub mod Rules
pub mod Wire
pub mod States
pub mod Histories
