pub mod Event
pub mod Line
pub mod Play
pub mod Run
