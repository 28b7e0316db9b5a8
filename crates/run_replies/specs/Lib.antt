pub mod Talks
pub mod Replied
