pub mod AcceptedLemmas
pub mod ActionLemmas
mod AddressLemmas
pub mod BaseLemmas
mod BoundLemmas
pub mod DatedLemmas
pub mod DistinctLemmas
pub mod EachLemmas
pub mod EnabledLemmas
pub mod FaultLemmas
pub mod FewLemmas
pub mod FilterLemmas
pub mod GoodLemmas
mod ItemLemmas
mod ItemRows
mod KeptLemmas
pub mod LaneLemmas
pub mod ListedLemmas
pub mod NextLemmas
pub mod NumberLemmas
pub mod OptionLemmas
mod OwnLemmas
pub mod PartLemmas
mod PatternBounds
pub mod PlaceLemmas
pub mod RunLemmas
pub mod SecondLemmas
pub mod SettingsLemmas
pub mod SourceLemmas
pub mod StorableLemmas
pub mod TermLemmas
pub mod TrimLemmas
pub mod WatchLemmas
mod TreeRows
pub mod WrittenLemmas
pub mod ReadLemmas
