pub mod Outcomes
pub mod Words
pub mod Keywords
pub mod Fields
pub mod Reading
pub mod Written
pub mod Told
