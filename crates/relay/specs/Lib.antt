pub mod Messages
pub mod Relays
pub mod Receiving
