pub mod Codec
pub mod Numbers
pub mod Texts
pub mod Small
pub mod Addresses
pub mod Lists
