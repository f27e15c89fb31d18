pub mod Rule
pub mod Ends
pub mod Senders
pub mod Passes
pub mod ReadSteps
pub mod Writing
pub mod WriteSteps
pub mod TickSteps
