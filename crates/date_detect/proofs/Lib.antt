pub mod OptionLemmas
pub mod YearLemmas
pub mod DateLemmas
pub mod LeavesLemmas
pub mod BuildLemmas
pub mod NameLemmas
pub mod Literals
