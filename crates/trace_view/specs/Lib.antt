pub mod Trace
pub mod Limit
pub mod Others
