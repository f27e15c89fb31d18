pub mod Keyed
pub mod Wires
pub mod Acting
pub mod Bodies
pub mod BrokerState
pub mod Handling
