pub mod StartLemmas
pub mod RunLemmas
pub mod SlotLemmas
pub mod TopLemmas
mod Rows
