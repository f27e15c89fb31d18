mod SideLemmas
mod RunLemmas
mod WordLemmas
mod FinishLemmas
