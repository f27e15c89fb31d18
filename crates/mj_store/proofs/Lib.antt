pub mod Adding
pub mod Asking
pub mod Reading
pub mod Beginning
pub mod Found
pub mod Housing
pub mod BodyReading
pub mod Chains
