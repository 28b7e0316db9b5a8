pub mod CheckLemmas
pub mod LaneLemmas
pub mod OrderedLemmas
pub mod RisingLemmas
