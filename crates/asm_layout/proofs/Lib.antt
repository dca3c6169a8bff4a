pub mod LaidLemmas
mod LineLemmas
mod NameLemmas
mod OperandLemmas
pub mod OutcomeLemmas
