pub mod Acting
pub mod Accepting
pub mod Reopening
pub mod Services
pub mod Onward
