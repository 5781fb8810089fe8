pub mod Sheets
pub mod Days
pub mod Grown
