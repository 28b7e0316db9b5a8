pub mod TakeLemmas
pub mod LookLemmas
pub mod LoopLemmas
