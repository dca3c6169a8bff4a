mod Bound
mod Marks
pub mod Rows
pub mod Swept
