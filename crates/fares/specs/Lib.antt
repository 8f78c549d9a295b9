-- What the contracts of this crate speak of. Assumes nothing.
pub mod Limits
pub mod Readings
pub mod Measures
pub mod Tariffs
pub mod FareStates
pub mod Refusals
pub mod Ladders
pub mod Surcharges
pub mod LadderLaws
pub mod SurchargeLaws
