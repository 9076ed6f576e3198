pub mod Digits
pub mod Spelled
