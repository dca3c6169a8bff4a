pub mod ManifestValue
pub mod Limited
pub mod Layout
pub mod Forms
pub mod Ranges
pub mod Reading
pub mod Answers
pub mod Names
