pub mod Khazad
pub mod Blocks
pub mod Undo
pub mod Layers
pub mod Boxes
pub mod Products
pub mod Schedule
pub mod Twice
