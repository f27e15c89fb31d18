pub mod Performing
pub mod Lawful
