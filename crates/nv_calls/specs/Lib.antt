pub mod calls
pub mod fsync
pub mod histories
pub mod reads
pub mod writes
