-- What was written of a text, piece by piece.
use Rattle.std.specs.Prelude.{◌≡◌, ℕ, ◌<◌, List, ◌++◌, length}
use Rattle.std.specs.declared.option.Option.{Option}
use Rattle.std.specs.Io.KnownBytes.{append_known}

-- Some front of the text was written, and this is the rest of it.
pub record Wrote (old now : Option (List ℕ)) (text rest : List ℕ) : Type 0 where
  pub shown : List ℕ
  pub whole : shown ++ rest ≡ text
  pub written : now ≡ append_known old shown

-- Some front of the text was written, and a rest of it was left unwritten.
pub record WrotePart (old now : Option (List ℕ)) (text : List ℕ) : Type 0 where
  pub rest : List ℕ
  pub unwritten : 0 < length rest
  pub so_far : Wrote old now text rest
