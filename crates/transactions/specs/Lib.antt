pub mod Answer
pub mod NumberSet
pub mod Kind
pub mod Table
pub mod Receiving
pub mod Calls
pub mod Writing
pub mod Exchange
