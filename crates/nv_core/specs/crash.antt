-- Crashes: what a power failure leaves.
pub mod CommutingWrites
pub mod PersistentTail
pub mod CrashImages
pub mod RegionsAtRest
pub mod EmptyLog
