pub mod FilledLemmas
pub mod calls
pub mod histories
pub mod fsync
pub mod reads
pub mod writes
