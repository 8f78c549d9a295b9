pub mod Entries
pub mod Sizes
pub mod AfterLog
pub mod Promised
pub mod SameRooms
pub mod Keeping
