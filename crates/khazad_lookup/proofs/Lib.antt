pub mod Rule
pub mod Sums
