pub mod RunLemmas
pub mod ByteLemmas
pub mod StageLemmas
pub mod ClearLemmas
pub mod TurnLemmas
pub mod RestLemmas
mod Rows
