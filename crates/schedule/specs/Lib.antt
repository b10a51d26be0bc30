pub mod Schedule
pub mod Switches
pub mod Streams
pub mod Laws
pub mod Keeping
