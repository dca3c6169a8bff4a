mod Places
mod Alike
mod Differences
mod Feeds
mod Ends
mod Presence
mod Runs
mod Fronts
