pub mod FaultLaws
pub mod FindLaws
pub mod RangeLaws
pub mod RepeatLaws
pub mod RowLaws
pub mod UseLaws
