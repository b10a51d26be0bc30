pub mod Looking
pub mod Turns
pub mod Notes
pub mod Stepping
