-- Calls: what reads, writes and syncs have in common.
pub mod Accesses
pub mod Advances
pub mod Asks
pub mod CallAnswers
pub mod EarlyRefusals
pub mod EndedCalls
pub mod Scattered
