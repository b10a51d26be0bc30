pub mod TestLaws
pub mod ChoiceLaws
pub mod FaultLaws
pub mod ServiceLaws
