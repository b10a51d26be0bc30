pub mod Pace
pub mod Watching
