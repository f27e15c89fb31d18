pub mod Lanes
pub mod Holding
pub mod Places
pub mod Deadlines
pub mod Returning
pub mod RoutingState
pub mod Staying
pub mod Rows
