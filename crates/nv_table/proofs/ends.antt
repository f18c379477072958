-- Ends: what opening and closing give.
pub mod OpeningWordLaws
pub mod OpenLaws
pub mod MountLaws
pub mod CloseLaws
pub mod BeginLaws
pub mod UnfillLaws
pub mod ClosedLaws
