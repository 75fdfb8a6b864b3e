pub mod Across
pub mod Banks
pub mod OneBank
pub mod Packed
