pub mod Powers
pub mod Range
pub mod Rights
