pub mod AskLemmas
pub mod CallLemmas
pub mod LifeLemmas
pub mod PlaceLemmas
pub mod ReplyLemmas
pub mod RequestLemmas
mod Rows
