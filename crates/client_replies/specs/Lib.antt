pub mod Refusals
pub mod Banned
pub mod Changes
pub mod Asked
pub mod Texts
pub mod Replies
pub mod Known
pub mod Meant
