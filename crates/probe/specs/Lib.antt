pub mod Codec
pub mod Counting
pub mod Counts
pub mod Jitter
pub mod Language
pub mod Occurring
pub mod Probing
pub mod Programs
