pub mod WordStep
pub mod Live
