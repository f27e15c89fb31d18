pub mod TextLemmas
pub mod VerdictLemmas
pub mod ReadLemmas
pub mod RunLemmas
pub mod TableLemmas
