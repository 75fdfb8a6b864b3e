pub use Rattle.flat_model.specs.Placing
pub mod Naming
pub mod Refusals
pub mod Resolvable
pub mod Resolve
