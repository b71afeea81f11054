pub mod LawsLeads
pub mod LawsCompletion
pub mod LawsEncoding
pub mod Characters
