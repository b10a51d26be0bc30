pub mod Rounds
pub mod Turn
