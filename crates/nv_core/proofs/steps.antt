-- Steps: laws of operations, control states, events and runs.
pub mod SearchLaws
pub mod NextSteps
pub mod ByKind
pub mod RefusalLaws
pub mod CleanerControls
pub mod AtCall
pub mod CleanerOps
pub mod WordLaws
pub mod Inherits
pub mod RunLaws
pub mod FrameLaws
pub mod OwnedLaws
pub mod Tabled
pub mod Placed
pub mod CleanerLands
pub mod ControlSteps
