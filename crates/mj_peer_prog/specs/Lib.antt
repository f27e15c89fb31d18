pub mod Endings
pub mod Statuses
pub mod PeerWords
pub mod PeerRuns
pub mod PeerTable
pub mod StatusRows
