pub mod Bounds
pub mod Commands
pub mod Refusals
pub mod Values
pub mod Verbs
