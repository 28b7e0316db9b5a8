pub mod CallLemmas
pub mod FailureLemmas
pub mod FindLemmas
pub mod FirstLemmas
pub mod FollowersLemmas
pub mod PlaceLemmas
pub mod SetLemmas
pub mod ShownLemmas
