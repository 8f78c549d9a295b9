pub mod Rule
pub mod Refusals
pub mod Table
pub mod RuleFacts
pub mod Line
pub mod LineFacts
pub mod LineHops
pub mod MakerTimetables
