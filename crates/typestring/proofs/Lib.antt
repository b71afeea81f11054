pub mod LawsKinds
pub mod LawsGrammar
pub mod LawsParse
pub mod LawsCheck
pub mod LawsPlaces
pub mod LawsBrackets
pub mod Grammatical
