pub mod Spelling
pub mod Words
pub mod Fields
pub mod Lines
