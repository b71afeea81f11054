pub mod LawsKinds
pub mod LawsFcs
pub mod LawsXor
pub mod FcsTable
pub mod LawsFrame
pub mod FrameBounds
