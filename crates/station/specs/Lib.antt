pub mod Stations
pub mod Moving
pub mod Ticking
pub mod Opening
pub mod Settling
pub mod Advancing
pub mod Agreement
