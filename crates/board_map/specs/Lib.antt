pub mod Keys
pub mod Rows
pub mod Tree
pub mod Words
pub mod Values
pub mod Shape
pub mod BoardText
