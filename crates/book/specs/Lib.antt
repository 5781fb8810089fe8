pub mod Books
pub mod Soundness
