pub mod Tags
pub mod Expanded
pub mod Hosts
