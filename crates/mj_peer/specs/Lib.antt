pub mod PeerTexts
pub mod Sweeping
pub mod ClientEndRules
pub mod ClientStands
pub mod WorkerEndRules
pub mod WorkerStands
