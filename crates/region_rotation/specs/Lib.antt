pub mod Directories
pub mod Finding
pub mod Ready
pub mod Rotation
