pub mod Taking
pub mod Giving
pub mod Order
pub mod Ending
pub mod Outcome
pub mod OutputFaults
pub mod EqualOutput
