pub mod Given
pub mod Counts
pub mod Stability
pub mod RunLaws
pub mod Serving
pub mod Faults
pub mod Running
