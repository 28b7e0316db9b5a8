pub mod Times
pub mod Opened
pub mod Added
pub mod Kept
