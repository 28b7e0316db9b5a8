pub mod Tables
pub mod Places
pub mod Counts
pub mod Entries
pub mod Walks
