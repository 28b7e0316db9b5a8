pub mod Sessions
pub mod OneState
