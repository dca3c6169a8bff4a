pub mod Sight
pub mod Laws
pub mod Through
