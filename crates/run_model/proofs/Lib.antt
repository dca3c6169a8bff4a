pub mod Phases
pub mod Telling
mod Fold
mod NextTurn
mod Turns
pub mod Lives
mod Rows
pub mod Replies
pub mod Balance
mod Licensing
mod Verified
mod Ends
mod Time
