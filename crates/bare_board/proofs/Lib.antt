mod Filling
mod Lines
mod Stretches
mod Ticks
