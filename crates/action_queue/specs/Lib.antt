pub mod Queues
pub mod Index
pub mod Tries
pub mod Due
pub mod Checks
