mod SinkLemmas
mod OverLemmas
mod RunRows
mod StatusLaws
mod FinishLemmas
mod WordLemmas
