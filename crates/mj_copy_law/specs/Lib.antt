pub mod World
pub mod CopyLaw
pub mod MessageLaws
pub mod CopyRuns
pub mod Cuts
