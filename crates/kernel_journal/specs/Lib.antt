pub mod Ledger
pub mod RowTable
