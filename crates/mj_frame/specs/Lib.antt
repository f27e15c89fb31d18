pub mod FrameSpelling
pub mod HeadReading
pub mod Laws
