pub mod HeardLemmas
pub mod NumberLemmas
pub mod PlaceLemmas
pub mod RereadLemmas
pub mod CallLemmas
pub mod LifeLemmas
pub mod InUseLemmas
pub mod WalkLemmas
pub mod RunLemmas
pub mod BehindLemmas
pub mod ServedLemmas
mod Rows
