-- The table's invariant: what keeps it.
pub mod DrawnLaws
pub mod PassLaws
pub mod StepsKeepInvariant
pub mod Going
pub mod PassingKeepsInvariant
pub mod PartLaws
pub mod StepAt
pub mod StayLaws
