pub mod Laws
pub mod Loading
