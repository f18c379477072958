-- Laws about writes.
pub mod MachineLaws
pub mod OverLaws
pub mod RefusalLaws
