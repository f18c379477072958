pub mod Generated
pub mod Summaries
pub mod Stocks
pub mod Counts
pub mod Generators
pub mod LoadRuns
