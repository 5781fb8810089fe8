pub mod Adding
pub mod Arrays
