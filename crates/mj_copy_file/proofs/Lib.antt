pub mod LogReads
pub mod LogOpens
pub mod LogSpots
pub mod LogAppends
