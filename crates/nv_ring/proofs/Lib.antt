mod AnswerLaws
mod AppendLaws
pub mod AskedLaws
mod AppendMeasures
mod BehindLaws
mod DrawLaws
pub mod ListLaws
mod PledgeLaws
mod RunningLaws
mod WaysLaws
mod WriteStepLaws
