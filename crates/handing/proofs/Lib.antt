pub mod DrivingLaws
pub mod WritingLaws
pub mod HandingLaws
