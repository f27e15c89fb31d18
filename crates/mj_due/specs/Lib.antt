pub mod Leases
pub mod Numbers
