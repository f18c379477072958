-- State: laws of the layout, of slots and of lists.
pub mod Held
pub mod ShiftLaws
pub mod LayoutLaws
pub mod ViewLaws
pub mod BufferLaws
pub mod MoveLaws
pub mod Counting
pub mod RoomLaws
pub mod SortLaws
pub mod ShapeLaws
