pub mod MakesLemmas
pub mod ListLemmas
pub mod DatesLemmas
pub mod BuildLemmas
pub mod FindingLemmas
