mod Kept
mod Steps
mod Dealing
mod Ends
pub mod AllPasses
pub mod Sent
