pub mod Polling
pub mod Launches
pub mod Starting
