pub mod TextLemmas
pub mod SweepLemmas
pub mod ClientLemmas
pub mod WorkerLemmas
