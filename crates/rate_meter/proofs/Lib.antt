pub mod StepLaws
pub mod MeterLaws
pub mod MeasuredLaws
pub mod CounterLaws
