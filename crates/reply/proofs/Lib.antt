pub mod LawsReplies
pub mod Scopes
