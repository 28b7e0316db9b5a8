pub mod Added
pub mod Rooms
pub mod Watching
pub mod Addresses
pub mod Shown
pub mod Stale
pub mod Lately
