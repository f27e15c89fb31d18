pub mod LeaseMap
pub mod Entries
