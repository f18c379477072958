pub mod state
pub mod invariant
pub mod steps
pub mod passes
pub mod ends
