pub mod Steps
pub mod Kept
pub mod Example
pub mod Progress
pub mod Apart
