pub mod Limits
pub mod Action
pub mod Content
pub mod Draft
pub mod Laid
pub mod Layout
pub mod Seen
pub mod Value
