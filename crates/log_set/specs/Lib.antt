pub mod Firsts
pub mod Shown
pub mod Searches
pub mod Places
pub mod Logs
pub mod Changes
pub mod Followers
