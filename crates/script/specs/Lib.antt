pub mod Digits
pub mod Names
pub mod Commands
pub mod Words
pub mod Sheets
