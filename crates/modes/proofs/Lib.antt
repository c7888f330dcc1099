pub mod Over
pub mod Walk
pub mod Undone
pub mod Tags
