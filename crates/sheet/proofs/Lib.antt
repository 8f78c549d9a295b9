pub mod Packing
pub mod Chains
pub mod Sheets
pub mod Pasting
pub mod Faults
pub mod Causes
pub mod Accepts
