-- What the contracts of this crate speak of. Assumes nothing.
pub mod Items
