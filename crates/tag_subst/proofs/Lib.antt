pub mod DoneLemmas
pub mod EscapeLemmas
pub mod FillLemmas
pub mod ReadLemmas
pub mod TagRows
pub mod ValueLemmas
pub mod StepLemmas
