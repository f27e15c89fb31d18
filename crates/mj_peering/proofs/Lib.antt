mod PlaceLemmas
mod RequestLemmas
mod TurnLemmas
mod RunLemmas
mod WorkerLemmas
