pub mod Decision
pub mod Effects
