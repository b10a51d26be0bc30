pub mod ServiceNumbers
pub mod Causes
