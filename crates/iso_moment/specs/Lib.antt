pub mod Moments
