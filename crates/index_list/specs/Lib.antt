pub mod Arena
pub mod Kept
