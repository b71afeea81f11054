pub mod LawsClasses
pub mod SevenOctets
pub mod StepsByOctets
pub mod Fates
pub mod Classified
