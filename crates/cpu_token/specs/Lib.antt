pub mod Passes
pub mod Told
pub mod Parts
pub mod TokenRule
pub mod Plays
