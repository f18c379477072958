-- Ends: how a table is made and closed.
pub mod CompleteRuns
pub mod OpeningWords
pub mod OpeningSlots
pub mod Begun
pub mod Closing
