pub mod Proportions
pub mod SignedSums
