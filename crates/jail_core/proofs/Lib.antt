pub mod AgainLemmas
pub mod ConfigLemmas
pub mod CoreLemmas
pub mod StoredLemmas
