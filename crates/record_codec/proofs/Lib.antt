pub mod AllowedLemmas
pub mod DistinctLemmas
pub mod NameLemmas
pub mod DefinitionLemmas
pub mod LaneLemmas
pub mod InputLemmas
pub mod OrderLemmas
pub mod BanLemmas
pub mod JailLemmas
pub mod ViewLemmas
pub mod FrontLemmas
mod Rows
