pub mod KeepingLaws
pub mod SharingLaws
