pub mod NextReading
pub mod StreamItems
pub mod WireState
pub mod KeptByWire
pub mod StreamCuts
pub mod StreamFault
pub mod Laws
pub mod SmallItems
