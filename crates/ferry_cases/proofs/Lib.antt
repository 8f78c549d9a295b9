pub mod Tickets
pub mod Days
pub mod Computed
pub mod Opened
pub mod CasesRun
