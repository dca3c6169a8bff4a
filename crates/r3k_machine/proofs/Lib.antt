mod Written
mod MoreSteps
mod Table
mod Entering
mod Wanting
