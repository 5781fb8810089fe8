pub mod Readings
pub mod Corrections
