mod PageBytes
mod FirstPages
mod Smallest
