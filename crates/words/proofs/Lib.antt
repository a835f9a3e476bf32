pub mod Lists
pub mod Places
pub mod Fronts
pub mod Cuts
pub mod Spelling
pub mod Held
