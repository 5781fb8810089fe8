pub mod Like
pub mod Places
pub mod Taken
