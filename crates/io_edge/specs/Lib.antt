pub mod Counts
pub mod Ends
pub mod Sinks
pub mod Sources
pub mod Streams
pub mod Taken
pub mod Written
