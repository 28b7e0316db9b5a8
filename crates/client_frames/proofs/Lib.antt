pub mod CutLemmas
pub mod FrameLemmas
pub mod HeardLemmas
pub mod ReceiveLemmas
pub mod ReplyLemmas
pub mod WordLemmas
mod Rows
