pub mod Decoded
pub mod Fields
