pub mod Coherence
pub mod Counts
pub mod Solo
