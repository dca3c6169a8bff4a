pub mod Allowed
pub mod Asked
mod BindServing
pub mod Booked
mod Breaking
pub mod Building
pub mod Claimed
pub mod ClaimServing
pub mod Claiming
mod Contexts
pub mod Copying
pub mod Counting
mod Delivering
mod Dying
mod Environments
mod GiftServing
pub mod Giving
pub mod Happening
pub mod Keeping
mod LineServing
pub mod Lists
mod Looks
mod Losing
mod Mappings
pub mod Masks
mod PageServing
pub mod Numbering
mod OwnServing
mod Pages
pub mod Parted
mod Parts
mod Phases
mod Posting
pub mod Reading
pub mod Repossessing
pub mod Refills
pub mod Rows
mod Replying
pub mod Seen
pub mod Sending
pub mod Serving
mod SlotServing
pub mod Slots
pub mod Sound
pub mod Staying
pub mod Stepping
mod Stores
mod Stretching
mod Tables
mod TransferServing
pub mod Turning
pub mod Turns
pub mod Wired
mod Pressing
mod Revoking
