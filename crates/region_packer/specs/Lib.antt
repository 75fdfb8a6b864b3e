pub mod Directory
