pub mod Driving
pub mod Outputs
pub mod Handing
