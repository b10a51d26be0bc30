pub mod ResultLaws
pub mod ListLaws
pub mod ReportLaws
pub mod SentLaws
pub mod OutcomeLaws
pub mod BegunLaws
