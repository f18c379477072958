-- Passes: what their making and taking in keeps.
pub mod LeftLaws
pub mod SeatLaws
pub mod BetweenLaws
pub mod AloneAgain
pub mod AloneLaws
pub mod MomentLaws
pub mod KnownLaws
