pub mod EventLaws
pub mod FaithfulLaws
pub mod RefusalLaws
pub mod NoteLaws
pub mod PlaceLaws
pub mod StepLaws
