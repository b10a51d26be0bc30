pub mod KnownLaws
pub mod SendingLaws
