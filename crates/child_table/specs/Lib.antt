pub mod Late
pub mod Children
pub mod Places
