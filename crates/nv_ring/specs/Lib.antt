pub mod Appends
pub mod Draws
pub mod Pledges
pub mod RunningWrites
pub mod Ways
pub mod WriteSteps
