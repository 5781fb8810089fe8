pub mod Rings
pub mod Totals
pub mod Balance
