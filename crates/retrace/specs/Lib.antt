pub mod Travels
pub mod Steps
pub mod Missteps
pub mod Retracing
pub mod Weights
pub mod Promise
