pub mod Members
pub mod Marks
pub mod LayerAnswers
pub mod Outcomes
pub mod Placed
pub mod Standing
pub mod WholeDays
