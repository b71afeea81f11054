pub mod LawsPacked
pub mod ReadsBack
pub mod OneSpelling
pub mod WhichFault
