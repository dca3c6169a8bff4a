-- The lemmas on images.
mod Bytes
mod Programs
mod Acceptance
mod Spelled
pub mod Read
mod Within
