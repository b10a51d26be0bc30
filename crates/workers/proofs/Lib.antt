pub mod ListLaws
pub mod CrewLaws
