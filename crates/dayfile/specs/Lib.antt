pub mod Calendar
pub mod Classes
pub mod Headings
pub mod Marks
pub mod Records
