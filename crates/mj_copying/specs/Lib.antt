pub mod Passing
pub mod ShipRun
pub mod ShipEndings
pub mod Held
pub mod FollowRun
pub mod FollowFile
pub mod FollowState
