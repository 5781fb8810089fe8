pub mod Encoded
