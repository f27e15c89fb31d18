pub mod PairLemmas
pub mod WeightLemmas
pub mod LawLemmas
