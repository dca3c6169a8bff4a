mod Ticks
mod Others
