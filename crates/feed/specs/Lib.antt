pub mod Versions
pub mod Knowing
pub mod FeedRule
pub mod Ends
pub mod Writers
pub mod Readers
