pub mod AuditedLemmas
