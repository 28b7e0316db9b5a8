pub mod Listening
pub mod Loading
