pub mod Outcome
pub mod Set
pub mod Items
pub mod Perform
