pub mod AnswerLemmas
pub mod ReadLemmas
pub mod WindowLemmas
pub mod LeftLemmas
pub mod LeftRecords
pub mod RecordLemmas
pub mod FrontLemmas
pub mod GrammarLemmas
pub mod ReadingLemmas
mod Rows
