pub mod StreamPlace
pub mod Build
pub mod Built
