pub mod Words
pub mod Statuses
pub mod Finishing
pub mod Hosting
