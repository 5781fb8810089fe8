pub mod Soundness
pub mod Keys
pub mod Counting
pub mod Adding
pub mod Bounds
pub mod Totals
pub mod Renewed
pub mod Laws
