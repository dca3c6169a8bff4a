pub mod Packets
pub mod Wired
pub mod Cursor
pub mod Fit
pub mod Numbers
