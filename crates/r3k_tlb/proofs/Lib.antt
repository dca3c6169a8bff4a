mod Scanning
mod Bits
mod Emptying
mod Fitting
mod Looking
mod Writing
