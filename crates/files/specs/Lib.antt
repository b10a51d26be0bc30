pub mod Names
pub mod Writing
pub mod Shape
pub mod FileReading
pub mod Identity
pub mod PatPrograms
