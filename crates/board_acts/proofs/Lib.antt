mod Emptied
mod Leading
