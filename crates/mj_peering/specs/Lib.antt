pub mod Performing
pub mod Requests
pub mod Feeding
pub mod ClientRun
pub mod WorkerRun
