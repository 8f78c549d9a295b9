pub mod Spans
pub mod Thresholds
-- What the contracts of this crate speak of. Assumes nothing.
pub mod Sizes
pub mod Refusals
pub mod Rules
pub mod Covering
pub mod CoverTests
pub mod Masks
pub mod RuleTables
pub mod OpenedTables
pub mod TableLaws
pub mod Bounded
pub mod MaskBits
pub mod NextTickets
pub mod Reaching
pub mod Deciding
pub mod SoundTables
