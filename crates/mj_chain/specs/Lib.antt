pub mod Seats
pub mod Links
pub mod Nodes
pub mod Desks
