pub mod CheckText
pub mod Pending
