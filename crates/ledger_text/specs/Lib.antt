pub mod Limits
pub mod Words
pub mod Names
pub mod LineKinds
pub mod RowText
pub mod LedgerText
pub mod PlanText
pub mod Within
