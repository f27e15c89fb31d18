pub mod ShipRows
pub mod StatusLaws
pub mod WordLemmas
pub mod FollowRows
