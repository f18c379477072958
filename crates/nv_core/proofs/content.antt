-- Content: each event keeps what files, buffers and reads have.
pub mod PlainPages
pub mod MadeLaws
pub mod FileLaws
pub mod KeepsLengths
pub mod BufferLaws
pub mod GatheredLaws
pub mod KeepsValidBuffers
pub mod KeepsLegal
pub mod KeepsContent
pub mod PatchLaws
pub mod PatchSteps
pub mod StorePageLaws
pub mod KeepsPatchedReads
pub mod ReachLengths
