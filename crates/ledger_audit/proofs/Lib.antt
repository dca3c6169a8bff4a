mod Below
mod Releasing
mod Everywhere
mod Scanning
mod Judging
mod Strictness
mod Shares
