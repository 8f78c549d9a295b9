pub mod Each
pub mod Digits
pub mod ReadingBack
