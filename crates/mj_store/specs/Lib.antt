pub mod Commands
pub mod Standing
pub mod Opening
pub mod Bodies
pub mod Laws
