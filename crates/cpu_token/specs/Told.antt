-- What a call that tries to take the value tells.
use Rattle.std.specs.Prelude.{◌≡◌, ◌≢◌, ◌⊎◌, ℕ, ◌%◌, List}
use Rattle.cpu_token.specs.Passes.{PassValue, HoldValue, looked_pass, tried_pass}
use Rattle.cpu_token.specs.declared.token.Tried.{Tried}
use Rattle.cpu_token.specs.declared.token.Tried.TheVariants.{Hold, Busy}

module _ {V E F : Type 0} (entries : V → ℕ → List E) (fixed : V → F) where
  -- The word was even in the load and the same in the exchange. The value that came out has the fixed part and the entries that the pass knew.
  pub record Takes (pass : PassValue E F) (hold : HoldValue V E F) : Type 0 where
    pub seen : ℕ
    pub free : seen % 2 ≡ 0
    pub pass_is : hold.pass ≡ tried_pass seen (looked_pass seen pass)
    pub untouched : hold.value ≡ hold.out
    pub same : fixed hold.value ≡ pass.fixed
    pub own : entries hold.value pass.number ≡ pass.entries

-- the load found the word odd and no exchange was made, or the exchange found another word than the load
abbrev pub Misses : {E F : Type 0} → PassValue E F → ℕ → ℕ → PassValue E F → Type 0
Misses pass seen found after =
    ((seen % 2 ≡ 1) × (found ≡ seen) × (after ≡ looked_pass seen pass)) ⊎ ((found ≢ seen) × (after ≡ tried_pass found (looked_pass seen pass)))

module _ {V E F : Type 0} (entries : V → ℕ → List E) (fixed : V → F) where
  -- what a pass has become
  abbrev pub HasTried : PassValue E F → Tried V E F → Type 0
  HasTried pass (Hold hold) = Takes entries fixed pass hold
  HasTried pass (Busy seen found after) = Misses pass seen found after
