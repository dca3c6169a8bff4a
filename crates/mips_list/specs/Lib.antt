pub mod WordText
pub mod Listed
