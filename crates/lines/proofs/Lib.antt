pub mod LawsLines
pub mod LawsSpelling
pub mod LawsKeeping
pub mod ReadsSpelled
pub mod AnyPieces
pub mod SpelledOnly
pub mod LineBack
pub mod KeptInSpace
