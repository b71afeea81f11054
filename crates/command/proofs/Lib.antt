pub mod LawsContent
pub mod LawsJudged
pub mod LawsDecisions
pub mod LawsStatuses
pub mod EffectsByOctets
