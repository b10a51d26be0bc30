pub mod Line
pub mod Pace
pub mod Readings
pub mod Deviation
pub mod Steps
pub mod Counters
pub mod Meter
