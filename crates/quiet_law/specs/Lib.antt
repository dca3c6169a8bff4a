pub mod Beginning
pub mod Alone
pub mod Quiet
pub mod EachTick
pub mod Writing
pub mod Decided
pub mod Twin
