mod OnceLemmas
mod OneLaneLemmas
mod LedgerLemmas
mod StepLemmas
mod HeadLemmas
mod Rows
mod LoadedLemmas
mod ServerLemmas
mod ServedLemmas
pub mod RunLemmas
