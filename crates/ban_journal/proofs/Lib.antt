pub mod CallLemmas
pub mod RoomLemmas
pub mod PartLemmas
pub mod JournalLemmas
pub mod FoundLemmas
pub mod LoadLemmas
pub mod StillLemmas
