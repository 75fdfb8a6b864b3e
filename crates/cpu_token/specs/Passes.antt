-- What a contract sees of a token, a pass and a hold.
use Rattle.std.specs.Prelude.{◌≡◌, ℕ, ◌+◌, ◌<◌, List, [], All, length, sum_by, take}
use Rattle.atomic_table.specs.Seated.{TableId}
use Rattle.shared_views.specs.Views.{is_at, made_from}

-- which token it is, and how many passes it was made with
pub record TokenValue : Type 0 where
  pub id : TableId
  pub passes : ℕ

-- A pass knows its token, its number, the fixed part of the value and the entries of its number. Each of the last two pairs is the word that the last step of that kind read, and how many such steps there were.
pub record PassValue (E F : Type 0) : Type 0 where
  pub token : TableId
  pub number : ℕ
  pub fixed : F
  pub entries : List E
  pub loaded : ℕ
  pub loads : ℕ
  pub fetched : ℕ
  pub fetches : ℕ

-- the pass that took the value, the value as it is, and as it was when it went out
pub record HoldValue (V E F : Type 0) : Type 0 where
  pub pass : PassValue E F
  pub value : V
  pub out : V

module _ {E F : Type 0} where
  -- the pass after a load of the word that read r
  abbrev pub looked_pass : ℕ → PassValue E F → PassValue E F
  looked_pass r p = record p { loaded = r; loads = p.loads + 1 }

  -- the pass after a compare-exchange of the word that found r
  abbrev pub tried_pass : ℕ → PassValue E F → PassValue E F
  tried_pass r p = record p { fetched = r; fetches = p.fetches + 1 }

  -- the pass after the value went home with these entries of its number
  abbrev pub given_pass : List E → PassValue E F → PassValue E F
  given_pass es p = record p { entries = es }

-- a pass of this token, value and number that has done nothing yet
abbrev pub fresh_pass : (E : Type 0) {F : Type 0} → TableId → F → ℕ → PassValue E F
fresh_pass E id f k = record { token = id; number = k; fixed = f; entries = []; loaded = 0; loads = 0; fetched = 0; fetches = 0 }

-- the passes from 0 to n - 1
abbrev pub fresh_passes : (E : Type 0) {F : Type 0} → TableId → F → ℕ → List (PassValue E F)
fresh_passes E id f n = made_from (fresh_pass E id f) 0 n

-- the first list begins with the second
abbrev pub BeginsWith : {X : Type 0} → List X → List X → Type 0
BeginsWith xs ys = take (length ys) xs ≡ ys

module _ {E F : Type 0} where
  -- the number of a pass
  abbrev pub pass_number : PassValue E F → ℕ
  pass_number p = p.number

  -- the passes are of the token, and each of its numbers is among them
  pub record AreAll (t : TokenValue) (passes : List (PassValue E F)) : Type 0 where
    pub of : All (λ p. p.token ≡ t.id) passes
    pub each : (k : ℕ) → k < t.passes → 0 < sum_by (is_at pass_number k) passes
