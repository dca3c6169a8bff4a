pub mod Limits
pub mod Wire
pub mod Laws
