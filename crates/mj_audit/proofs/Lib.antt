pub mod HearLemmas
pub mod LineLemmas
pub mod StepLemmas
pub mod CalmLemmas
pub mod KindLemmas
