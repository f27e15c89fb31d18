pub mod TextLines
pub mod Reading
pub mod Auditing
pub mod AuditingSoFar
