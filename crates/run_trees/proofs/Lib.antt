pub mod TreeLemmas
pub mod SupportLemmas
pub mod BuildLemmas
pub mod JailLemmas
pub mod ReadsLemmas
