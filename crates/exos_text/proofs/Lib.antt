mod Drawing
mod Ordering
mod Programs
mod Written
mod Body
mod Sound
