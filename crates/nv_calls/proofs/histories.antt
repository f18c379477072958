-- Histories: what the steps of a call tell.
pub mod CompleteLaws
pub mod FaultLaws
pub mod GoingOnLaws
pub mod HeedsLaws
pub mod LeftWordLaws
pub mod SinceLaws
pub mod UnmovedLaws
pub mod WriteStages
