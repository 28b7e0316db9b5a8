pub mod BitsLemmas
pub mod ByteLemmas
pub mod FormLemmas
pub mod MaskLemmas
pub mod PartLemmas
pub mod PrintLemmas
pub mod SlashLemmas
