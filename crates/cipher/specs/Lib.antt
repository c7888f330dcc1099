pub mod Block
pub mod Inverse
