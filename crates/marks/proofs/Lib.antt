pub mod MarkLaws
pub mod AddingLaws
