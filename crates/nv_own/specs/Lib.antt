-- Owned: the files of a mount that nobody shares.
pub mod Owned
