pub mod LawsNumbers
pub mod LawsItems
pub mod StackAndInterface
pub mod LinkKept
pub mod LawsEffects
