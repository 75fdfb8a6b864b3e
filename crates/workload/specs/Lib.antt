pub mod Generator
pub mod InputNumber
pub mod Kinds
pub mod MadeInput
pub mod Tally
pub mod Templates
