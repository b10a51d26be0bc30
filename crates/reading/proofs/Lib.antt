pub mod KnownLaws
pub mod ItemLaws
pub mod DecidedLaws
pub mod StreamLaws
pub mod PacketLaws
pub mod FailureLaws
pub mod HoldingLaws
