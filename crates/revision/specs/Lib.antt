pub mod Folding
pub mod Owned
pub mod Searching
