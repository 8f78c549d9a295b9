pub mod Log
pub mod Planners
pub mod Promise
pub mod Inquiries
pub mod Comparing
pub mod Rooms
pub mod Refusals
pub mod Entering
