pub mod Joining
pub mod Telling
