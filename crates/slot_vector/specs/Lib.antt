pub mod Laws
pub mod Slices
