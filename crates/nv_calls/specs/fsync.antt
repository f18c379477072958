-- Fsync: its control states, and the runs that it may make.
pub mod SyncRuns
pub mod SyncMachines
