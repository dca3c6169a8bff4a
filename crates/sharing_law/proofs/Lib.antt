mod Choices
mod Asking
mod Given
mod Giving
mod Replies
mod Books
mod Sound
mod Owning
mod Brings
mod Calling
pub mod Turning
mod Lists
mod Claimed
mod Claiming
mod Contexts
mod Counting
pub mod Happening
pub mod Listing
mod Handling
mod Delivering
pub mod Moments
mod Stepping
mod Timing
mod Backups
mod Repossessing
pub mod Agreeing
mod Later
pub mod Absent
mod SameVersion
mod Live
mod Leaving
mod Guaranteed
mod Allocated
mod Sizes
mod Sending
mod KeptSizes
mod LineOwners
mod Places
mod Mappings
mod Rooms
mod RegisterZero
