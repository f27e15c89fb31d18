pub mod Watching
pub mod ClientSights
pub mod ClientTries
pub mod WorkerSights
pub mod WorkerTries
