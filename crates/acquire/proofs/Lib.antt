pub mod TakenLaws
pub mod ReadingLaws
pub mod ProgramLaws
pub mod PlaceLaws
pub mod SeenLaws
