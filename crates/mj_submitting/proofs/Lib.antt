pub mod PlaceLemmas
pub mod PerformLemmas
pub mod LawfulLemmas
