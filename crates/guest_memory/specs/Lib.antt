pub mod Look
pub mod Space
pub mod Place
pub mod Steps
pub mod Peek
