mod FirstBad
mod Picking
mod Legs
mod Handing
mod Askables
pub mod Settled
pub mod Faulty
mod Answering
pub mod Promises
pub mod Accepting
mod Causes
mod Ending
pub mod Asked
pub mod SameSheets
