-- Walks: runs by hand.
pub mod Walks
pub mod BatchWalks
pub mod ShortWalks
pub mod WalkOpens
pub mod DirtyWalks
pub mod CrashByHand
