pub mod FerryBoard
pub mod FerryCases
