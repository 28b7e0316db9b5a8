pub mod CarryLemmas
pub mod CutLemmas
pub mod DecodeLemmas
pub mod ExpandLemmas
pub mod FollowLemmas
pub mod GlobLemmas
pub mod LawLemmas
pub mod LineLemmas
pub mod PieceLemmas
pub mod StandLemmas
pub mod Theorems
pub mod WatchLemmas
mod Facts
