pub mod Flags
pub mod Spans
pub mod Choices
pub mod StoreLaws
pub mod ImageLaws
pub mod WriteLaws
pub mod MomentLaws
pub mod Overwrites
mod Untold
pub mod RowReads
