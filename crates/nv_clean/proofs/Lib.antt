pub mod BatchLaws
mod BehindLaws
pub mod CleanStepLaws
mod FactLaws
mod FaultLaws
mod FileLaws
mod MeasureLaws
mod OwnedLaws
mod PieceLaws
mod RetireLaws
mod RoomLaws
mod StepLaws
mod WriteLaws
mod TellLaws
mod ToldLaws
mod AnswerLaws
mod BoundLaws
mod NotedLaws
mod CountLaws
mod SeenLaws
mod OverLaws
mod StoredLaws
mod HeedLaws
mod LeftLaws
mod LoneStepLaws
mod AloneLaws
