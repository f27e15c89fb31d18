pub mod CodeLemmas
pub mod WorkerLemmas
pub mod OrderLemmas
pub mod BehindLemmas
