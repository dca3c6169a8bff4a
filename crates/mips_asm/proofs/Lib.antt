mod EmissionLemmas
mod FilledLemmas
pub mod WritableLemmas
