-- Inner: what a seat of the table knows. No public contract cites this.
use Rattle.std.specs.Prelude.{◌≡◌, ℕ, ◌+◌, List, [], ◌∷◌, take, drop, Option, Some, None}
use Rattle.atomic_table.specs.Table.{Me}
use Rattle.atomic_table.specs.Seated.{TableId}
use Rattle.shared_views.specs.Views.{made_from}
use Rattle.cpu_token.specs.Passes.{PassValue}
use Rattle.cpu_token.specs.declared.part.PassPart.{PassPart}

-- a part that has done nothing yet
abbrev pub fresh_part : (V E : Type 0) {F : Type 0} → F → ℕ → PassPart V E F
fresh_part V E f k = record { number = k; fixed = f; entries = []; held = None; out = None; loaded = 0; loads = 0; fetched = 0; fetches = 0 }

-- the parts of the numbers from 0 to n - 1
abbrev pub fresh_parts : (V E : Type 0) {F : Type 0} → ℕ → F → List (PassPart V E F)
fresh_parts V E n f = made_from (fresh_part V E f) 0 n

module _ {V E F : Type 0} where
  -- the number of a part
  abbrev pub part_number : PassPart V E F → ℕ
  part_number p = p.number

  -- the part after a load that read r
  abbrev pub looked_part : ℕ → PassPart V E F → PassPart V E F
  looked_part r p = record p { loaded = r; loads = p.loads + 1 }

  -- the part after an exchange that found another word, r
  abbrev pub missed_part : ℕ → PassPart V E F → PassPart V E F
  missed_part r p = record p { fetched = r; fetches = p.fetches + 1 }

  -- the part after an exchange that found r, wrote h and took the value v
  abbrev pub holding_part : ℕ → ℕ → V → PassPart V E F → PassPart V E F
  holding_part r h v p = record p { fetched = r; fetches = p.fetches + 1; held = Some h; out = Some v }

  -- the part after it gave back a value whose entries of each number are these
  abbrev pub giving_part : (ℕ → List E) → PassPart V E F → PassPart V E F
  giving_part es p = record p { entries = es p.number; held = None; out = None }

  -- what goes to a new seat
  abbrev pub first_part : List (PassPart V E F) → List (PassPart V E F)
  first_part ps = take 1 ps

  -- what stays with the old seat
  abbrev pub other_parts : List (PassPart V E F) → List (PassPart V E F)
  other_parts ps = drop 1 ps

  -- what a contract sees of a part of the token id
  abbrev pub shown_part : TableId → PassPart V E F → PassValue E F
  shown_part id p = record { token = id; number = p.number; fixed = p.fixed; entries = p.entries; loaded = p.loaded; loads = p.loads; fetched = p.fetched; fetches = p.fetches }

  -- the number of the first part
  abbrev pub number_of : List (PassPart V E F) → ℕ
  number_of [] = 0
  number_of (p ∷ ps) = p.number

  -- the entries of the first part
  abbrev pub entries_of : List (PassPart V E F) → List E
  entries_of [] = []
  entries_of (p ∷ ps) = p.entries

  -- the word that the first part loaded last
  abbrev pub loaded_of : List (PassPart V E F) → ℕ
  loaded_of [] = 0
  loaded_of (p ∷ ps) = p.loaded

  -- how often the first part loaded
  abbrev pub loads_of : List (PassPart V E F) → ℕ
  loads_of [] = 0
  loads_of (p ∷ ps) = p.loads

  -- the word that the first part's last exchange found
  abbrev pub fetched_of : List (PassPart V E F) → ℕ
  fetched_of [] = 0
  fetched_of (p ∷ ps) = p.fetched

  -- how often the first part tried an exchange
  abbrev pub fetches_of : List (PassPart V E F) → ℕ
  fetches_of [] = 0
  fetches_of (p ∷ ps) = p.fetches

  -- what a contract sees of the one part of a seat, whose fixed part is f
  abbrev pub pass_value : TableId → F → List (PassPart V E F) → PassValue E F
  pass_value id f ps =
      record { token = id; number = number_of ps; fixed = f; entries = entries_of ps; loaded = loaded_of ps; loads = loads_of ps; fetched = fetched_of ps; fetches = fetches_of ps }

  -- the part holds nothing
  abbrev pub IsIdle : PassPart V E F → Type 0
  IsIdle p = p.held ≡ None

  -- a pass has one part, with the fixed part f, and no slot
  pub record IsPass (f : F) (me : Me (Option V) (List (PassPart V E F))) : Type 0 where
    pub part : PassPart V E F
    pub is : me ≡ (part ∷ [], [])
    pub idle : IsIdle part
    pub same : part.fixed ≡ f

  -- a hold has one part, which holds the word h and took the value v, and the empty slot
  pub record IsHold (f : F) (h : ℕ) (v : V) (me : Me (Option V) (List (PassPart V E F))) : Type 0 where
    pub part : PassPart V E F
    pub is : me ≡ (part ∷ [], (0, None) ∷ [])
    pub held : part.held ≡ Some h
    pub out : part.out ≡ Some v
    pub same : part.fixed ≡ f
