pub mod Limits
pub mod VersionLimits
