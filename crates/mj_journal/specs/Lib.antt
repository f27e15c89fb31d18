pub mod Appending
pub mod FileText
pub mod HandedOut
pub mod Laws
pub mod Making
pub mod Opening
