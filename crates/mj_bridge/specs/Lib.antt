pub mod BridgeRules
pub mod BridgeRows
pub mod BridgeSights
pub mod BridgeStands
