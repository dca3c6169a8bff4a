pub mod Secrecy
pub mod Dead
