pub mod ViewLemmas
pub mod EngineLemmas
pub mod AnswerLemmas
pub mod StillLemmas
pub mod LoadLemmas
