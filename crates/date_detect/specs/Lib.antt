pub mod Usual
pub mod Calendar
pub mod Fields
pub mod Texts
pub mod Forms
pub mod Dates
pub mod Builds
