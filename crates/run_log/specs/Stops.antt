-- Inner: no public contract cites this. How far the reading of a text has come, and where it stops.
use Rattle.std.specs.Prelude.{◌≡◌, ◌≢◌, ℕ, ◌+◌, ◌*◌, ◌<◌, ◌≤◌, true, List, [], ◌∷◌, ◌++◌, length}
use Rattle.std.specs.List.{AllByRecursion, flat_map, list_all}
use Rattle.flat_model.specs.declared.events.Logged.{Logged}
use Rattle.flat_model.specs.declared.logs.End.{End}
use Rattle.flat_model.specs.declared.logs.LogErr.{LogErr}
use Rattle.flat_model.specs.declared.logs.LogErr.TheVariants.{BadText, Memory}
use Rattle.flat_model.specs.declared.parts.Config.{Config}
use Rattle.flat_model.specs.Log.{is_named_item}
use Rattle.flat_model.specs.Text.{end_line, end_lines, item_line}
use Rattle.run_log.specs.Typed.{IsTypedEnd, IsTypedItem}

-- a named item whose line this is, without its line feed
pub record IsItemOf (cfg : Config) (line : List ℕ) (i : Logged) : Type 0 where
  pub named : is_named_item cfg i ≡ true
  pub typed : IsTypedItem i
  pub text : item_line cfg i ≡ line ++ 10 ∷ []

-- no named item's line
pub record IsNoItem (cfg : Config) (line : List ℕ) : Type 0 where
  pub none : (i : Logged) → IsItemOf cfg line i → ⊥

-- an end of a thread whose line this is, without its line feed
pub record IsEndOf (cfg : Config) (t : ℕ) (line : List ℕ) (end : End) : Type 0 where
  pub typed : IsTypedEnd end
  pub text : end_line cfg t end ≡ line ++ 10 ∷ []

-- no line of an end of the thread
pub record IsNoEnd (cfg : Config) (t : ℕ) (line : List ℕ) : Type 0 where
  pub none : (end : End) → IsEndOf cfg t line end → ⊥

-- a named item whose line these bytes begin with
pub record IsItemAt (cfg : Config) (bytes : List ℕ) (i : Logged) (after : List ℕ) : Type 0 where
  pub named : is_named_item cfg i ≡ true
  pub typed : IsTypedItem i
  pub whole : bytes ≡ item_line cfg i ++ after

-- an end of a thread whose line these bytes begin with
pub record IsEndAt (cfg : Config) (t : ℕ) (bytes : List ℕ) (end : End) (after : List ℕ) : Type 0 where
  pub typed : IsTypedEnd end
  pub whole : bytes ≡ end_line cfg t end ++ after

-- no item's line begins these bytes
pub record HasNoItem (cfg : Config) (bytes : List ℕ) : Type 0 where
  pub none : (i : Logged) (after : List ℕ) → IsItemAt cfg bytes i after → ⊥

-- no line of an end of a thread begins these bytes
pub record HasNoEnd (cfg : Config) (t : ℕ) (bytes : List ℕ) : Type 0 where
  pub none : (end : End) (after : List ℕ) → IsEndAt cfg t bytes end after → ⊥

-- items that were read from the front of the bytes
pub record AreItemsOf (cfg : Config) (bytes : List ℕ) (items : List Logged) (rest : List ℕ) : Type 0 where
  pub named : list_all (is_named_item cfg) items ≡ true
  pub typed : AllByRecursion IsTypedItem items
  pub whole : bytes ≡ flat_map (item_line cfg) items ++ rest
  pub short : 2 * length items + length rest ≤ length bytes

-- ends of the first threads that were read from the front of the bytes
pub record AreEndsOf (cfg : Config) (bytes : List ℕ) (ends : List End) (rest : List ℕ) : Type 0 where
  pub typed : AllByRecursion IsTypedEnd ends
  pub whole : bytes ≡ end_lines cfg 0 ends ++ rest
  pub short : 2 * length ends + length rest ≤ length bytes

-- the reading of the ends stopped at a line that is none, with so many lines before the first of them
pub record StopsInEnds (cfg : Config) (bytes : List ℕ) (before : ℕ) (k : ℕ) : Type 0 where
  pub ends : List End
  pub rest : List ℕ
  pub read : AreEndsOf cfg bytes ends rest
  pub few : length ends ≤ length cfg.threads
  pub line : k ≡ before + length ends + 1
  pub stuck : length ends < length cfg.threads → HasNoEnd cfg (length ends) rest
  pub left : length ends ≡ length cfg.threads → rest ≢ []

-- why the reading of the ends failed
abbrev pub EndsFail : Config → List ℕ → ℕ → LogErr → Type 0
EndsFail cfg bytes before (BadText k) = StopsInEnds cfg bytes before k
EndsFail cfg bytes before Memory = Unit {0}
