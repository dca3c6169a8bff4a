pub mod Giving
pub mod Granted
pub mod Origins
