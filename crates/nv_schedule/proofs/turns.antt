-- Turns: what an advance of a caller or of the cleaner does, and where a token is at its point.
pub mod HandActs
pub mod HandLaws
pub mod TryEndLaws
pub mod TurnLaws
pub mod WayLaws
