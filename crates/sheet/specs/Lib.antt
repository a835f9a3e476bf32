pub mod Texts
pub mod Rulings
pub mod Sheets
