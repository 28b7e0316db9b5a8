pub mod PlaceLemmas
pub mod OrderLemmas
mod Rows
