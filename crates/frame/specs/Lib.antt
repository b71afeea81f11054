pub mod Fcs
pub mod Kind
pub mod Frame
