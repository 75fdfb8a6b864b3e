pub mod Alone
pub mod Changes
pub mod Found
pub mod Lists
pub mod Rings
pub mod Walks
pub mod Writes
