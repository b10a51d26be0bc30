pub mod ArrivalLaws
pub mod RingLaws
pub mod NewRingLaws
pub mod ChunkLaws
pub mod ShowingLaws
