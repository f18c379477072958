pub mod AlterLaws
pub mod CalledLaws
pub mod CommitLaws
mod CommittingLaws
pub mod EntryLaws
mod LaidLaws
pub mod StoreLaws
pub mod TailLaws
