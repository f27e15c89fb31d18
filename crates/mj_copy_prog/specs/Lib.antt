pub mod CopyWords
pub mod Statuses
pub mod CopyLines
pub mod Refusing
pub mod Endings
pub mod ShipTable
pub mod FollowTable
