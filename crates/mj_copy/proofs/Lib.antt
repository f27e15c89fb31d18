pub mod ShipSweep
pub mod FollowSweep
