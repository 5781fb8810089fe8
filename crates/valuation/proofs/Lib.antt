pub mod Prices
pub mod Products
