pub mod Standing
pub mod Due
pub mod Private
pub mod Bare
