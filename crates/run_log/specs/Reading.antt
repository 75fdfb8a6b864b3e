-- Which bytes are the text of a log, and where other bytes go wrong.
use Rattle.std.specs.Prelude.{◌≡◌, ℕ, zero, suc, ◌+◌, ◌-◌, ◌≤◌, nat_eq, List, [], ◌∷◌, ◌++◌, count_by, if◌then◌else◌}
use Rattle.flat_model.specs.declared.logs.Log.{Log}
use Rattle.flat_model.specs.declared.logs.LogErr.{LogErr}
use Rattle.flat_model.specs.declared.logs.LogErr.TheVariants.{BadText, Memory}
use Rattle.flat_model.specs.declared.parts.Config.{Config}
use Rattle.flat_model.specs.Log.{IsNamed}
use Rattle.flat_model.specs.Text.{text_of}
use Rattle.run_log.specs.Typed.{IsTyped}

-- a named log whose text is these bytes
pub record IsLogOf (cfg : Config) (bytes : List ℕ) (log : Log) : Type 0 where
  pub named : IsNamed cfg log
  pub typed : IsTyped log
  pub text : text_of cfg log ≡ bytes

-- the text of a named log begins with these bytes
pub record Begins (cfg : Config) (bytes : List ℕ) : Type 0 where
  pub log : Log
  pub rest : List ℕ
  pub whole : IsLogOf cfg (bytes ++ rest) log

-- how many line ends there are
abbrev pub line_count : List ℕ → ℕ
line_count bytes = count_by (λ b. nat_eq b 10) bytes

-- the first k lines with their line ends
abbrev pub first_lines : ℕ → List ℕ → List ℕ
first_lines zero bytes = []
first_lines (suc k) [] = []
first_lines (suc k) (b ∷ bytes) = b ∷ first_lines (if nat_eq b 10 then k else suc k) bytes

-- The bytes are the text of no named log. Line k is the first after which no text can go on: the lines before it begin a text, and with it they do not, or there is no such whole line.
pub record IsFirstBadLine (cfg : Config) (bytes : List ℕ) (k : ℕ) : Type 0 where
  pub none : (log : Log) → IsLogOf cfg bytes log → ⊥
  pub some : 1 ≤ k
  pub within : k ≤ line_count bytes + 1
  pub before : Begins cfg (first_lines (k - 1) bytes)
  pub bad : k ≤ line_count bytes → Begins cfg (first_lines k bytes) → ⊥

-- what a failure says of the bytes: where they go wrong, or nothing
abbrev pub IsCause : Config → List ℕ → LogErr → Type 0
IsCause cfg bytes (BadText k) = IsFirstBadLine cfg bytes k
IsCause cfg bytes Memory = Unit {0}
