pub mod state
pub mod steps
pub mod invariant
pub mod log
pub mod content
pub mod crash
pub mod walks
