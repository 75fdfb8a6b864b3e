pub mod Calls
pub mod Kept
pub mod Listed
pub mod Places
pub mod Sample
pub mod Servers
pub mod Sought
pub mod Table
