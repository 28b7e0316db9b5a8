pub mod Rules
pub mod Roles
pub mod Findings
pub mod Builds
