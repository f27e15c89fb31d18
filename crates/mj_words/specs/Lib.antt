pub mod Numbers
pub mod Options
pub mod SinkCounts
pub mod Lines
