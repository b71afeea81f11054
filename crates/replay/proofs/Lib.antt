pub mod LawsPlay
pub mod LawsChunks
pub mod LawsRun
pub mod JustBefore
pub mod Replays
