pub mod Amounts
pub mod Buying
