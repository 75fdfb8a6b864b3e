pub mod Bits
pub mod Irqs
pub mod Kept
pub mod Sample
