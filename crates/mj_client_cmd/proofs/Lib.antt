pub mod ReadingLemmas
pub mod RequestLemmas
pub mod ReplyLemmas
