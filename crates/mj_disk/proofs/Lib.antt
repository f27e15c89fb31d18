pub mod Images
pub mod Marking
pub mod Moments
pub mod Recording
