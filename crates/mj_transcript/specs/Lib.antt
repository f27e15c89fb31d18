pub mod Lines
pub mod Text
pub mod LineBounds
pub mod Said
pub mod Waiting
pub mod Verdicts
pub mod Worked
