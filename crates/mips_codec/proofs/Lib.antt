pub mod RowsRead
pub mod RowsFound
pub mod Spelling
