pub mod Text
pub mod Ports
pub mod State
pub mod Rules
pub mod Setup
pub mod View
