pub mod Accepted
pub mod Leak
pub mod Rhythm
