pub mod StreamPlaceLaws
pub mod BuildLaws
