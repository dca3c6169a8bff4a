pub mod Views
pub mod Log
pub mod Progress
