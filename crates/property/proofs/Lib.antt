pub mod LawsStatus
pub mod TableRule
pub mod SignedRange
pub mod RefusalNumbers
