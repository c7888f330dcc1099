pub mod InPlace
pub mod Steps
pub mod Ecb
pub mod Cbc
pub mod Cmac
