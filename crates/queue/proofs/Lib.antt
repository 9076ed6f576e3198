pub mod Sifts
pub mod Waiting
pub mod Parts
