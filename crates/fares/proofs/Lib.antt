pub mod GaugeOrder
pub mod KeepingCovering
