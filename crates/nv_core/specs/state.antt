-- State: what a mount is, as plain data: words, cells, passes, and a cleaner's batch.
pub mod Totals
pub mod Words
pub mod Spares
pub mod Values
pub mod Cleaner
pub mod Passes
pub mod Core
