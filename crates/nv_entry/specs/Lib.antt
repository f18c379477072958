pub mod Group
pub mod Reading
pub mod Ready
pub mod Checks
pub mod OneAnswer
pub mod Commits
pub mod Uncommitted
