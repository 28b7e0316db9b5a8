pub mod Drained
pub mod Options
pub mod Prepared
pub mod Ticks
pub mod Turns
pub mod Reloads
pub mod Usage
