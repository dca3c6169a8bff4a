mod TextLemmas
mod WordLemmas
pub mod NamedWords
