pub mod HallState
pub mod Settling
pub mod HallSteps
pub mod PairLaw
pub mod Offers
