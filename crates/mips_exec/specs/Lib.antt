pub mod Access
pub mod AccessKind
pub mod Cpu
pub mod Effect
pub mod Exception
pub mod Kept
pub mod Step
pub mod Word
