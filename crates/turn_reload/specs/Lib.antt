pub mod Telling
pub mod Leaving
pub mod Taking
pub mod Reloading
