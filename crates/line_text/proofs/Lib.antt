pub mod FailingLemmas
pub mod FewLemmas
pub mod FrontLemmas
pub mod HexLemmas
mod LineLemmas
mod NumeralLemmas
mod PieceLemmas
mod PlaceLemmas
pub mod TableLemmas
pub mod WordLemmas
