pub mod DurableLaws
pub mod ImageLaws
pub mod MadeLaws
pub mod LineLaws
pub mod PickedLaws
pub mod Rooms
pub mod LineRooms
pub mod RowLaws
pub mod StepLaws
pub mod ReadLaws
pub mod PastLaws
pub mod OneOfRow
pub mod CallLaws
pub mod Ranges
mod RowStateLaws
mod HeldLines
mod LineWiseLaws
