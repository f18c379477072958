-- Histories: what a pass has done in a call, and what came of it.
pub mod Complete
pub mod Faults
pub mod GoingOn
pub mod Heeds
pub mod LeftWords
pub mod Tries
pub mod Unmoved
