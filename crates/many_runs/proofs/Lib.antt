mod CourseLemmas
mod JoinLemmas
mod ChainLemmas
mod Rows
