pub mod Faults
pub mod Shelf
pub mod Sink
pub mod Memory
pub mod Streams
