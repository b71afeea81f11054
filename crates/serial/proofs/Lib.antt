pub mod LawsReceiving
pub mod Framing
pub mod GoesOn
pub mod LawsHistories
pub mod Faithful
pub mod Separate
pub mod Resynchronization
pub mod WorkedPair
