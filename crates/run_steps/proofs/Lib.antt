pub mod ToldLemmas
pub mod StoredLemmas
pub mod WriteLemmas
pub mod BringLemmas
pub mod StartLemmas
pub mod RunningLemmas
