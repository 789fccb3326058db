mod Missing
pub mod Runs
pub mod Streams
