pub mod Codes
pub mod Places
pub mod Puts
pub mod Laws
