pub mod Messages
pub mod Found
pub mod ShipRules
pub mod ShipStands
pub mod FollowRules
pub mod FollowStands
