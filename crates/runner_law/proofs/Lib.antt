mod Ages
mod Shape
mod Telling
mod Naming
mod Turns
