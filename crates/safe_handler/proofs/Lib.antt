mod Lending
mod Steps
mod Runs
mod Effects
mod Positions
mod Ending
mod Limits
