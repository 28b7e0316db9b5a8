pub mod Clients
pub mod Nexts
pub mod Lives
