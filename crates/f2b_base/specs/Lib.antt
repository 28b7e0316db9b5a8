pub mod Addresses
pub mod Families
pub mod Limits
pub mod Lines
pub mod Masks
pub mod Span
