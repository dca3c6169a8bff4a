pub mod Tables
pub mod Stripes
pub mod Sights
pub mod Mourning
pub mod Stores
