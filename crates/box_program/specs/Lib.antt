pub mod Words
pub mod Numbers
pub mod Opcodes
pub mod Program
pub mod Shown
pub mod Steps
