pub mod Packed
pub mod Faults
