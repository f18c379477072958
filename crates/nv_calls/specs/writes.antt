-- Writes: what a write of a descriptor tells, as a whole and one step at a time.
pub mod Writes
pub mod WriteLaws
pub mod WriteMachines
pub mod Refusals
