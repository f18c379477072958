-- State: laws of words, cells, passes and lists.
pub mod Changes
pub mod Choices
pub mod PlainCalls
pub mod PageLaws
pub mod SlotLaws
pub mod ValueLaws
pub mod TotalLaws
pub mod WorkWords
pub mod StepWords
pub mod Places
pub mod SparesLaws
