pub mod Spans
pub mod Thresholds
pub mod Below
pub mod MaskRows
pub mod LimitScans
