pub mod Working
pub mod Crews
