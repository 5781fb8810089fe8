pub mod Found
pub mod Grid
pub mod Blanks
