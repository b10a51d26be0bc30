pub mod Stops
pub mod Sending
pub mod Working
