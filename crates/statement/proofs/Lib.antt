pub mod Lengths
pub mod Stated
pub mod Room
