pub mod Blanks
pub mod Terms
pub mod Valid
