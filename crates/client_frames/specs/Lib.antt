pub mod Frames
pub mod Comes
pub mod Replies
pub mod Laws
