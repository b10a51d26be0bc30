pub mod Ends
pub mod Load
pub mod Rhythm
pub mod Waiting
