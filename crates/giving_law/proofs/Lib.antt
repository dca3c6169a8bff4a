mod Places
mod Rising
mod Running
pub mod Moments
mod Ticking
mod Given
mod Once
mod Phases
mod Origins
pub mod Calls
