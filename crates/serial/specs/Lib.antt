pub mod Feeding
pub mod Sending
pub mod Running
pub mod Opening
pub mod Ending
pub mod Outcome
