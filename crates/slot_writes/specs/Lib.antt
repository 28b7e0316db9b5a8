pub mod Writes
pub mod Points
pub mod Stages
pub mod Entries
pub mod Rests
