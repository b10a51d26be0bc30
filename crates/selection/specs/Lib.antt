pub mod Chosen
pub mod ChosenView
pub mod ByNumber
pub mod Faults
