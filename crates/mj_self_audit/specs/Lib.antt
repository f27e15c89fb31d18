pub mod Recorded
pub mod AuditedRuns
