pub mod Play
pub mod Playback
pub mod Chunks
pub mod Run
