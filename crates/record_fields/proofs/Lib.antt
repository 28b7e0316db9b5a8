pub mod ItemLemmas
pub mod CodecLemmas
pub mod NumberLemmas
pub mod TextLemmas
pub mod ListLemmas
pub mod AddressLemmas
pub mod SmallLemmas
pub mod LengthLemmas
mod Rows
