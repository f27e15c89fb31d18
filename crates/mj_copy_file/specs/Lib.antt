pub mod Logs
pub mod LogReading
