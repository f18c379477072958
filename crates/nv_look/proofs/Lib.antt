pub mod CopyLaws
pub mod TextLemmas
pub mod WalkLaws
