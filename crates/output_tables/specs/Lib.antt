pub mod Output
pub mod OnPid
pub mod Room
pub mod TableSet
