pub mod Hops
pub mod Riding
pub mod Spelling
pub mod Stumbling
pub mod Parts
pub mod Following
pub mod Outcomes
pub mod Weighing
