pub mod Level
pub mod BucketValue
pub mod QueueValue
