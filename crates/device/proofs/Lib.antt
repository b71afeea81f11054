pub mod LawsPorts
pub mod LawsRules
pub mod LawsSetup
pub mod StateRules
pub mod SetupKeepsRules
pub mod LawsFresh
