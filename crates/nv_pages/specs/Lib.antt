pub mod Altered
pub mod CommitCalls
pub mod Commits
pub mod PageWork
pub mod DeviceCalls
