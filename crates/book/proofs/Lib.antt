pub mod Held
pub mod Keeps
