pub mod Reads
pub mod Windows
pub mod Versions
pub mod Fronts
pub mod Readings
