pub mod EmissionLaws
pub mod StepLaws
pub mod VersionLaws
pub mod EndLaws
pub mod ReadingLaws
