pub mod LinkLemmas
pub mod ShipLemmas
pub mod FollowSound
pub mod FollowLemmas
