pub mod BoundLemmas
pub mod TableLemmas
pub mod VerbLemmas
