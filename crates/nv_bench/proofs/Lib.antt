pub mod Through
pub mod Lists
pub mod NameLaws
pub mod PartLaws
pub mod StoreLaws
pub mod PowerLaws
