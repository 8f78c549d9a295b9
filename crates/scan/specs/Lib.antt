pub mod Stores
pub mod Links
pub mod Rounds
pub mod Chains
pub mod PathTables
pub mod Scanned
pub mod Filling
pub mod Stages
