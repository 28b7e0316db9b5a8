pub mod QueueLemmas
pub mod KeyLemmas
pub mod IndexLemmas
pub mod EndLemmas
pub mod DueLemmas
pub mod BelowLemmas
pub mod CheckLemmas
