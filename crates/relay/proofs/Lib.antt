pub mod MessageLaws
pub mod RelayLaws
