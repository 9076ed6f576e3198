pub mod Meaning
pub mod Tables
pub mod Printed
pub mod Unchanged
