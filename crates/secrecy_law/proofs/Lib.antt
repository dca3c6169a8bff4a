mod Seeing
mod Living
mod Emptied
