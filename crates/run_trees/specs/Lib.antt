pub mod Trees
pub mod Reads
