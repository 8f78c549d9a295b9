pub mod Rows
pub mod Format
pub mod Refusals
pub mod Reading
pub mod Outcome
pub mod Promise
