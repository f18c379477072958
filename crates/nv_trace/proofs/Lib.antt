pub mod Begun
mod Endings
mod Fields
pub mod FewTokens
pub mod FirstRounds
mod Fitting
mod Forgotten
mod Inputs
mod Joined
mod NextRounds
pub mod Numbered
mod Numbers
mod PartLists
mod Parts
pub mod ReadEnds
pub mod ReadFirst
mod Refusals
pub mod RefusedRounds
mod RoundCalls
pub mod RoundChains
mod RoundEnds
mod Schedules
mod Shapes
mod TokenLists
mod WholeRounds
pub mod Writing
