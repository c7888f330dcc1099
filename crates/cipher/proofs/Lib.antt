pub mod Rows
pub mod Numbers
pub mod Computed
pub mod Wholes
pub mod Inverses
