pub mod PlaceLemmas
pub mod RunLemmas
pub mod AddLemmas
pub mod FollowLemmas
pub mod FindtimeLemmas
