pub mod CharLemmas
