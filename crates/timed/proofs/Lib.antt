pub mod Granted
pub mod Halves
