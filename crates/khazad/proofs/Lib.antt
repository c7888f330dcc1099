pub mod Columns
pub mod Made
pub mod Schedules
pub mod Rounds
