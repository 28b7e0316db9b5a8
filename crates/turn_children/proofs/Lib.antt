pub mod EndLemmas
pub mod PollLemmas
pub mod PollsLemmas
pub mod LaunchLemmas
pub mod StartLemmas
pub mod StartsLemmas
