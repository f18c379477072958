-- State: the layout of the table, its slots, and what a pass sees.
pub mod Layout
pub mod Limits
pub mod Opened
pub mod Views
pub mod SlotValues
pub mod Keys
pub mod Changes
pub mod States
pub mod Rotated
pub mod Workspaces
pub mod WorkspaceLends
