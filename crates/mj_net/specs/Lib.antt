pub mod Hosts
pub mod Passing
pub mod Standing
