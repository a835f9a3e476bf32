pub mod Names
pub mod Named
pub mod Texts
pub mod Cuts
pub mod Lists
