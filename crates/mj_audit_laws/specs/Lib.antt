pub mod HeldLaw
pub mod AnswerLaw
