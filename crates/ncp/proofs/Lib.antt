pub mod LawsTurns
pub mod LawsServing
pub mod Prints
