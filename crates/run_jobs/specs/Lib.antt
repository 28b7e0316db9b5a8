pub mod Tried
pub mod Runs
