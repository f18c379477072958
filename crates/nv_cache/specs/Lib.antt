pub mod ReadSteps
pub mod RunningReads
pub mod Searches
pub mod Tries
pub mod Ways
