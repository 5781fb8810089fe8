pub mod Known
pub mod Rows
pub mod PartyRows
pub mod Lacking
pub mod Shares
pub mod Charged
pub mod Small
pub mod Sounds
