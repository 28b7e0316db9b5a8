pub mod ReaderLemmas
pub mod LeaveLemmas
pub mod TakeLemmas
pub mod ReloadLemmas
pub mod FollowLemmas
