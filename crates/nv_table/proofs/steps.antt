-- Steps: what a step of a pass keeps and tells.
pub mod RunsOn
pub mod Onward
pub mod TurnLaws
pub mod StepLaws
pub mod CallOps
pub mod OwnedSlotLaws
pub mod ExchangeLaws
pub mod CallLaws
pub mod TakenLaws
