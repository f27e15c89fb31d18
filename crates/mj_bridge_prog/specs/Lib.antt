pub mod Sides
pub mod BridgeRun
pub mod BridgeWords
pub mod BridgeTable
