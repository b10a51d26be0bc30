pub mod LevelLaws
pub mod BytesLaws
pub mod BucketLaws
