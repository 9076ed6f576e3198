pub mod Members
pub mod Folds
pub mod Owning
