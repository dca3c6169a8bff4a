mod Requests
mod Replies
mod Events
mod Takings
mod Runs
