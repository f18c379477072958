-- Crashes: what a power failure leaves, proved.
pub mod CommutingLaws
pub mod CoverLaws
pub mod DropLaws
pub mod CrashPieces
pub mod CrashGroups
pub mod CrashOrder
pub mod CrashStores
pub mod CrashHeader
pub mod CrashLaws
pub mod AddedOrder
pub mod LiesLaws
pub mod CrashRegions
pub mod KeepsPersistent
pub mod AtRestLaws
pub mod CrashRuns
pub mod EmptyLogs
