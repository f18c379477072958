-- Histories: which placed calls stand in one, in which order, and each once.
pub mod HistoryMembers
pub mod HistorySums
pub mod HistoryRows
pub mod HistoryCounts
pub mod HistorySorted
pub mod HistoryOrder
pub mod HistoryLaws
pub mod HistoryThreads
