mod Queue
mod Happening
mod Sends
mod Wiring
mod Ahead
mod Machine
mod Ticking
mod Progress
