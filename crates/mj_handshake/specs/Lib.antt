pub mod ReadyProperty
pub mod ReadyReading
pub mod ReadyGrammar
pub mod Laws
