-- What the contracts of this crate speak of. Assumes nothing.
pub mod Bounds
pub mod Shown
pub mod Amounts
pub mod Heights
pub mod ZoneSets
pub mod ZoneMembers
pub mod Pairs
pub mod HeightLaws
pub mod SameWeights
pub mod AmountLaws
pub mod PairLaws
pub mod ZoneLaws
pub mod Digits
