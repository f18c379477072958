-- Streams: rounds that are run as they are read.
pub mod StreamLists
pub mod StreamReads
pub mod StreamParts
pub mod StreamSteps
pub mod StreamEnds
pub mod StreamOutcomes
