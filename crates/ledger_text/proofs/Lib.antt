mod Cutting
pub mod Found
mod Forms
mod Limited
