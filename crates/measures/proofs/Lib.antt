pub mod SameGauges
pub mod ZoneBits
