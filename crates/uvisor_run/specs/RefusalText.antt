-- The line of a refusal (docs/INPUT.md).
use Rattle.std.specs.Prelude.{ℕ, List, [], ◌∷◌, ◌++◌, codes}
use Rattle.std.specs.Fmt.{decimal}
use Rattle.board_map.specs.Keys.{key_name}
use Rattle.flat_model.specs.declared.refusals.Key.{Key}
use Rattle.flat_model.specs.declared.refusals.Refused.{Refused}
use Rattle.flat_model.specs.declared.refusals.Refused.TheVariants as refused
use Rattle.flat_model.specs.declared.refusals.Spot.{Spot}
use Rattle.flat_model.specs.declared.refusals.Spot.TheVariants as spot
use Rattle.flat_model.specs.Text.{line_of}

-- two words: what is counted, and its number
abbrev pub numbered : List ℕ → ℕ → List (List ℕ)
numbered name n = name ∷ decimal n ∷ []

-- the words of a place in a box
abbrev pub place_in_box : ℕ → List ℕ → ℕ → List (List ℕ)
place_in_box i name j = numbered (codes "box") i ++ numbered name j

-- the words of a place in the input
abbrev pub spot_words : Spot → List (List ℕ)
spot_words spot.Top = codes "top" ∷ []
spot_words spot.Board = codes "board" ∷ []
spot_words spot.Heap = codes "heap" ∷ []
spot_words (spot.AtBox i) = numbered (codes "box") i
spot_words (spot.Thread i j) = place_in_box i (codes "thread") j
spot_words (spot.Grant i j) = place_in_box i (codes "grant") j
spot_words (spot.Irq i j) = place_in_box i (codes "irq") j
spot_words (spot.Register k) = numbered (codes "register") k
spot_words (spot.Gateway k) = numbered (codes "gateway") k
spot_words (spot.Device k) = numbered (codes "device") k

-- a refusal that names a key at a place
abbrev pub at_key : List ℕ → Spot → Key → List (List ℕ)
at_key name s key = name ∷ spot_words s ++ key_name key ∷ []

-- a refusal that names a box
abbrev pub at_box : List ℕ → ℕ → List (List ℕ)
at_box name i = name ∷ numbered (codes "box") i

-- a refusal that names a grant of a box
abbrev pub at_grant : List ℕ → ℕ → ℕ → List (List ℕ)
at_grant name i j = name ∷ place_in_box i (codes "grant") j

-- the name of a refusal and its fields
abbrev pub refusal_words : Refused → List (List ℕ)
refusal_words refused.TooLong = codes "TooLong" ∷ []
refusal_words refused.NotToml = codes "NotToml" ∷ []
refusal_words (refused.UnknownKey s) = codes "UnknownKey" ∷ spot_words s
refusal_words (refused.MissingKey s key) = at_key (codes "MissingKey") s key
refusal_words (refused.BadValue s key) = at_key (codes "BadValue") s key
refusal_words (refused.TooMany s key) = at_key (codes "TooMany") s key
refusal_words (refused.BadBoard key) = codes "BadBoard" ∷ key_name key ∷ []
refusal_words (refused.BadName i) = at_box (codes "BadName") i
refusal_words (refused.TwiceNamed i) = at_box (codes "TwiceNamed") i
refusal_words (refused.NoRoom i) = at_box (codes "NoRoom") i
refusal_words (refused.BadGrant i j) = at_grant (codes "BadGrant") i j
refusal_words (refused.GrantOutside i j) = at_grant (codes "GrantOutside") i j
refusal_words (refused.SelfOverlap i j) = at_grant (codes "SelfOverlap") i j
refusal_words (refused.Clash i j) = codes "Clash" ∷ place_in_box i (codes "box") j
refusal_words (refused.LineTaken i j) = codes "LineTaken" ∷ place_in_box i (codes "irq") j
refusal_words (refused.BadGateway s) = codes "BadGateway" ∷ spot_words s
refusal_words (refused.NoServer k) = codes "NoServer" ∷ numbered (codes "gateway") k
refusal_words (refused.BadProgram i j l) =
    codes "BadProgram" ∷ place_in_box i (codes "thread") j ++ numbered (codes "line") l
refusal_words (refused.BadDevice d) = codes "BadDevice" ∷ numbered (codes "device") d
refusal_words (refused.BadScript at) = codes "BadScript" ∷ numbered (codes "script") at

-- the line of a refusal
unfoldable pub refusal_line : Refused → List ℕ
refusal_line refusal = line_of (codes "refused" ∷ refusal_words refusal)
