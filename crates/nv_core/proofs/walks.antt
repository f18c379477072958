-- Walks: runs by hand, worked out.
pub mod WalkRooms
pub mod Walked
pub mod DirtyWalked
pub mod WalkOpened
pub mod BatchWalked
pub mod ShortWalked
pub mod HandWalked
pub mod CrashByHandWalked
