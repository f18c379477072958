-- Fsync: what its steps are, and what they tell.
pub mod MachineLaws
