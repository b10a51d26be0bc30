pub mod Emission
pub mod Agreement
pub mod Recurrence
pub mod TableBuffers
pub mod Spans
