pub mod Telling
mod Acting
mod Turned
