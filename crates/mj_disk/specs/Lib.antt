pub mod Content
pub mod DiskModel
pub mod Entries
pub mod Images
pub mod Laws
pub mod Recorded
