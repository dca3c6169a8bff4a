pub mod Memory
pub mod OneWord
pub mod Statement
pub mod Texts
