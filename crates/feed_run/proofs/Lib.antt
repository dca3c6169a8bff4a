mod Joined
mod Takable
mod Unread
mod Ticked
mod Passing
mod PlainTick
mod Plain
