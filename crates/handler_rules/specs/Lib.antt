pub mod Instructions
pub mod Verification
pub mod Memory
pub mod Running
pub mod Laws
