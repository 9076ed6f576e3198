pub mod Sames
pub mod Verdicts
pub mod Listed
