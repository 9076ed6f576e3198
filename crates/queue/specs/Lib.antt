pub mod Heaps
pub mod Kinds
pub mod Queues
