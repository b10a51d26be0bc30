pub mod Broadcasts
pub mod Keeping
