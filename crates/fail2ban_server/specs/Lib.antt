pub mod Counted
pub mod Trees
