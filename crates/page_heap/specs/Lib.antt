pub mod Heap
pub mod Kept
pub mod Listed
