pub mod Joins
pub mod Written
