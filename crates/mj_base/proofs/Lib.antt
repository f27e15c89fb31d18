pub mod FrameLemmas
pub mod LinkLemmas
