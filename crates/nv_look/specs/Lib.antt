pub mod Causes
pub mod Rows
pub mod Listings
pub mod Walks
pub mod Texts
