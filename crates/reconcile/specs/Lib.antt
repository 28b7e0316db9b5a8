pub mod Loads
pub mod Opens
pub mod Engines
pub mod Answers
pub mod Laws
pub mod LoadedEngines
