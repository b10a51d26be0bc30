pub mod Devices
pub mod Written
pub mod Sending
