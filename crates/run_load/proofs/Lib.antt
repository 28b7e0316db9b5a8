pub mod ListenLemmas
pub mod ReadLemmas
pub mod SlotLemmas
pub mod NameLemmas
