pub mod Errors
pub mod Marked
pub mod Names
pub mod Parts
pub mod TagLaws
pub mod Tags
pub mod Values
