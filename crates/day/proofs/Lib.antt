pub mod Given
pub mod Filling
pub mod Beginning
