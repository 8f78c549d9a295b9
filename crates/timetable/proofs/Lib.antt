pub mod Neighbours
pub mod Breaks
pub mod Opens
pub mod Places
pub mod Lines
pub mod LineLimits
