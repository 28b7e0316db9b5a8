pub mod Versions
pub mod Definitions
pub mod Lanes
pub mod Distinct
pub mod Inputs
pub mod Views
pub mod Fronts
