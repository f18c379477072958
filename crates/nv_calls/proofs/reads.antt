-- Laws about reads.
pub mod AloneLaws
pub mod MachineLaws
pub mod OverLaws
pub mod PartLaws
