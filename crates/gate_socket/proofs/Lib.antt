pub mod UsesLemmas
