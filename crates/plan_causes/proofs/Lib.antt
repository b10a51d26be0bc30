pub mod FindLaws
pub mod CaLaws
pub mod StreamLaws
pub mod ChoiceLaws
pub mod ServiceLaws
pub mod PeriodLaws
pub mod SizeLaws
