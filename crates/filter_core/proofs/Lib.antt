mod Asks
mod Atoms
mod Bits
mod Bytes
mod Holding
mod Lists
mod Overlapping
mod Tabling
