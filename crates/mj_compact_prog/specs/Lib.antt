pub mod Statuses
pub mod CompactWords
pub mod Halts
pub mod Endings
pub mod CompactRows
