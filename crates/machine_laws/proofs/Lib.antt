mod Confining
mod Entering
mod Ticking
mod Seeing
