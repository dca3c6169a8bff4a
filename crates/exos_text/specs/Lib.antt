pub mod Draws
pub mod LoadElf
pub mod LoadImage
pub mod LoadSchedule
