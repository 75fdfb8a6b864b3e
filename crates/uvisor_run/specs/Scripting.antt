-- What the run of a script begins with.
use Rattle.std.specs.Prelude.{◌≡◌, ◌≤◌, ℕ, length, []}
use Rattle.flat_model.specs.declared.events.Drive.TheVariants.{Script}
use Rattle.machine_core.specs.View.{MachineView}

-- a machine with the script's drive that has done nothing, and may turn ended threads once for each word
pub record IsFresh (v : MachineView) (words : ℕ) : Type 0 where
  pub drive : v.drive ≡ Script
  pub words_is : words ≡ length v.config.script
  pub extra : words ≤ v.extra
  pub none_yet : v.items ≡ []
