pub mod LawsFolding
pub mod LawsEvent
pub mod EventTold
pub mod LinesPlayed
