mod SaidLemmas
mod SubmitLemmas
mod BreakLemmas
mod CloseLemmas
