pub mod Arrivals
pub mod Rings
pub mod Receiving
pub mod Advancing
pub mod Chunks
pub mod Carried
