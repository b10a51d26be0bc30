pub mod PlanLaws
pub mod SendingLaws
pub mod WorkingLaws
