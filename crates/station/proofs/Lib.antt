pub mod InputLaws
pub mod MovingLaws
pub mod StationLaws
pub mod OpeningLaws
pub mod TakingLaws
pub mod AdvancingLaws
pub mod AgreementLaws
pub mod TickLaws
