pub mod Crc
pub mod Section
pub mod Assembled
pub mod Collecting
pub mod Found
pub mod Packetized
pub mod Packetizing
