pub mod ReadingLemmas
pub mod SpellingLemmas
pub mod MeaningLemmas
pub mod LawLemmas
