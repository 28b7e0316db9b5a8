pub mod AddsLemmas
pub mod WalkLemmas
pub mod ReadingLemmas
pub mod NameLemmas
pub mod MatchLemmas
pub mod SetLemmas
pub mod Literals
