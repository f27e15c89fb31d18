pub mod ClientGrammar
pub mod ClientReading
pub mod ClientWriting
pub mod Laws
