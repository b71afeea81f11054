pub mod LawsRecords
pub mod LawsReading
pub mod LawsLogs
pub mod Answers
pub mod OneRecord
pub mod RoundTrip
pub mod WholeLogs
