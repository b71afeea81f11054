pub mod Kind
pub mod Grammar
pub mod Parse
pub mod Calls
