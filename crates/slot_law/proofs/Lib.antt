mod Owning
mod Changing
mod Leaving
