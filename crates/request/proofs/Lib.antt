pub mod LawsVerdict
