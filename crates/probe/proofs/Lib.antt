pub mod CountLaws
pub mod JitterLaws
pub mod SurveyLaws
