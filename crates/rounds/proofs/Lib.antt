pub mod RoundLaws
pub mod RecurringLaws
pub mod TurnLaws
