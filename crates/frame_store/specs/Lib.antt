pub mod Lending
pub mod Memory
pub mod Pages
