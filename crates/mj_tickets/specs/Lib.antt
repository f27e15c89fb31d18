pub mod Payload
pub mod PayloadReading
pub mod Fold
pub mod Index
pub mod Entries
pub mod Laws
pub mod Worked
