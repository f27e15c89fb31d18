mod WatchLemmas
mod ClientSightLemmas
mod WorkerSightLemmas
mod TryLemmas
mod WorkerTryLemmas
