pub mod Findings
pub mod Taken
pub mod Seen
