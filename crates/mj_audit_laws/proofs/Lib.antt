pub mod HeldLemmas
pub mod AnswerLemmas
