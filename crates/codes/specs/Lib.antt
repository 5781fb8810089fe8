pub mod Codes
pub mod Parties
pub mod Cells
pub mod Sums
pub mod Laws
