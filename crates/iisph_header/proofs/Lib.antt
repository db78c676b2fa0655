pub mod StepHeaders
