-- Passes: how they are made, told, and taken in.
pub mod Seats
pub mod PassesMade
pub mod Alone
pub mod BetweenCalls
pub mod Moments
pub mod Known
