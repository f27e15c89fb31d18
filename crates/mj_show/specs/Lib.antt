pub mod Helping
pub mod Showing
pub mod ShowingSoFar
