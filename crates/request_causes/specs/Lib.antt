pub mod Causes
pub mod RangeCauses
