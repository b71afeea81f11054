pub mod Engine
pub mod Merged
pub mod Carried
pub mod Links
pub mod Marked
pub mod Worked
