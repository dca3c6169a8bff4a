pub mod TraceLaw
