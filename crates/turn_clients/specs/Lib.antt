pub mod Responding
pub mod Searching
pub mod Serving
