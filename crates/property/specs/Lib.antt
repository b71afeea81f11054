pub mod Commands
pub mod Status
pub mod Row
pub mod Number
pub mod Rule
