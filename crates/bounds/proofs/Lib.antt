pub mod Facts
pub mod Limits
pub mod Bounds
