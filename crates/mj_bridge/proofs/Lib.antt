mod WorkerTurns
mod SightLemmas
mod FreeLemmas
mod DeckLemmas
mod Rows
