pub mod WholeRunLaws
pub mod LastStateLaws
mod AskLaws
mod HistoryLaws
mod OpenLaws
mod ClosedFilesLaws
pub mod CountLaws
mod StoppedLaws
mod TellingLaws
mod ClosedAtRestLaws
mod LoneWordLaws
mod ClosedLaws
mod ReorderLaws
mod WholeWriteLaws
mod ListLaws
mod ImageLaws
mod DrawnGroups
mod PlacedCalls
