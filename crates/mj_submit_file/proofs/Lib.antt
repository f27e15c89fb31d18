pub mod NoteLemmas
pub mod ReadLemmas
pub mod OpenLemmas
pub mod AppendLemmas
