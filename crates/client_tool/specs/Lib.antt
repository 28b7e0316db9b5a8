pub mod Asks
pub mod Lines
pub mod Talks
pub mod Ends
