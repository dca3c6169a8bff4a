pub mod Cache
pub mod Lookups
pub mod Flushes
pub mod Coherence
pub mod Laws
