pub mod Notes
pub mod Issues
pub mod Steps
pub mod Laws
