pub mod Constructs
pub mod FaultLines
pub mod Places
