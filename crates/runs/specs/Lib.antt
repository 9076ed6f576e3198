pub mod Runs
pub mod Promised
pub mod Example
pub mod Calls
pub mod Several
