-- What a seat is after each step, by what the step told.
use Rattle.std.proofs.Common.{◌≡◌, ◌≢◌, ℕ, ◌+◌, ◌^◌, ◌%◌, List, [], ◌∷◌, map, eqb, Option, Some, None, refl, ap, sym, ◌∙◌, subst}
use mathlib.Core.Option.{none}
use prog.Atomic.{either}
use Rattle.atomic_table.specs.Table.{step, Allows, rest}
use Rattle.cpu_token.specs.declared.part.PassPart.{PassPart}
use Rattle.cpu_token.specs.Parts.{looked_part, missed_part, holding_part, giving_part, IsPass, IsHold, pass_value, number_of}
use Rattle.cpu_token.specs.Passes.{HoldValue, given_pass}
use Rattle.atomic_table.specs.Seated.{TableId}
use Rattle.cpu_token.specs.Plays.{Sat, looked, claimed, gave}
use Rattle.cpu_token.proofs.Kept.{Rule, Changed, looks, claims, gives_back}

module _ {V E F : Type 0} where
  abbrev pub looked_keeps : (f : F) (m m' : Sat V E F) (r : ℕ) → IsPass f m → m' ≡ (map (looked_part r) m.0, m.1) → IsPass f m'
  looked_keeps f m m' r k e = record { part = looked_part r k.part; is = e ∙ ap (λ (x : Sat V E F). (map (looked_part r) x.0, x.1)) k.is; idle = k.idle; same = k.same }

  abbrev pub missed_keeps : (f : F) (m m' : Sat V E F) (r : ℕ) → IsPass f m → m' ≡ (map (missed_part r) m.0, m.1) → IsPass f m'
  missed_keeps f m m' r k e = record { part = missed_part r k.part; is = e ∙ ap (λ (x : Sat V E F). (map (missed_part r) x.0, x.1)) k.is; idle = k.idle; same = k.same }

  -- the seat whose slot is out with o
  pub has_slot : (m : Sat V E F) (ps : List (PassPart V E F)) (o : Option V) → m ≡ (ps, (0, o) ∷ []) → (x : Option V) × (m.1 ≡ (0, x) ∷ rest m.1)
  has_slot m ps o is = (o, ap (λ (x : Sat V E F). x.1) is ∙ sym (ap (λ (x : Sat V E F). (0, o) ∷ rest x.1) is))

  pub holding_is : (f : F) (m m' : Sat V E F) (r h : ℕ) (v : V) (k : IsPass f m) → m' ≡ (map (holding_part r h v) m.0, (0, Some v) ∷ m.1) → m' ≡ (holding_part r h v k.part ∷ [], (0, Some v) ∷ [])
  holding_is f m m' r h v k e = e ∙ ap (λ (x : Sat V E F). (map (holding_part r h v) x.0, (0, Some v) ∷ x.1)) k.is

  -- the seat after the slot was exchanged
  pub exchanged_is : (m m' : Sat V E F) (ps : List (PassPart V E F)) (o new : Option V) → m ≡ (ps, (0, o) ∷ []) → m' ≡ (m.0, (0, new) ∷ rest m.1) → m' ≡ (ps, (0, new) ∷ [])
  exchanged_is m m' ps o new is e = e ∙ ap (λ (x : Sat V E F). (x.0, (0, new) ∷ rest x.1)) is

  -- what the exchange read is what the slot had
  pub read_is : (m : Sat V E F) (ps : List (PassPart V E F)) (v : V) (r : Option V) → m ≡ (ps, (0, Some v) ∷ []) → m.1 ≡ (0, r) ∷ rest m.1 → r ≡ Some v
  read_is m ps v r is e = ap (first_out (Some v)) (sym e ∙ ap (λ (x : Sat V E F). x.1) is)
    where
      first_out : Option V → List (ℕ × Option V) → Option V
      first_out d [] = d
      first_out d (x ∷ xs) = x.1

module _ {V E F : Type 0} (entries : V → ℕ → List E) (fixed : V → F) (n : ℕ) (start : V) where
  pub looks_at : (slots id : ℕ) (f : F) (m : Sat V E F) → IsPass f m → Allows (Rule entries fixed n start) slots id m 0 (λ x. x) (looked (step slots 0 0 0 none) m)
  looks_at slots id f m k = subst (λ (x : Sat V E F). Allows (Rule entries fixed n start) slots id x 0 (λ y. y) (looked (step slots 0 0 0 none) x)) (sym k.is) (looks entries fixed n start slots id k.part)

  pub claims_at : (slots id : ℕ) (f : F) (m : Sat V E F) (old : ℕ) → IsPass f m → old % 2 ≡ 0
      → Allows (Rule entries fixed n start) slots id m 0 (λ x. either (eqb x old) (old + 1) x) (claimed entries fixed (step slots 0 old (old + 1) none) m)
  claims_at slots id f m old k even =
      subst (λ (x : Sat V E F). Allows (Rule entries fixed n start) slots id x 0 (λ y. either (eqb y old) (old + 1) y) (claimed entries fixed (step slots 0 old (old + 1) none) x)) (sym k.is)
      (claims entries fixed n start slots id k.part old even)

  pub gives_at : (slots id : ℕ) (m : Sat V E F) (p : PassPart V E F) (h : ℕ) (out v : V) → m ≡ (p ∷ [], (0, Some v) ∷ []) → Changed entries fixed n start p h out v
      → Allows (Rule entries fixed n start) slots id m 0 (λ _. (h + 1) % 2 ^ 64) (gave entries fixed (step slots 0 ((h + 1) % 2 ^ 64) 0 none) m)
  gives_at slots id m p h out v is c =
      subst (λ (x : Sat V E F). Allows (Rule entries fixed n start) slots id x 0 (λ _. (h + 1) % 2 ^ 64) (gave entries fixed (step slots 0 ((h + 1) % 2 ^ 64) 0 none) x)) (sym is)
      (gives_back entries fixed n start slots id p h out v c)

  -- what `give` asks of a hold's value, said of the fields
  pub changed_by : (id : TableId) (f : F) (h : ℕ) (v out : V) (m : Sat V E F) (whole : HoldValue V E F) (k : IsHold f h out m) → record { pass = pass_value id f m.0; value = v; out = out } ≡ whole
      → fixed whole.value ≡ fixed whole.out → ((j : ℕ) → j ≢ whole.pass.number → entries whole.value j ≡ entries whole.out j) → Changed entries fixed n start k.part h out v
  changed_by id f h v out m whole k is same others = record {
    held = k.held;
    out_is = k.out;
    same = ap (λ (x : HoldValue V E F). fixed x.value) is ∙ same ∙ sym (ap (λ (x : HoldValue V E F). fixed x.out) is);
    others = λ j other. ap (λ (x : HoldValue V E F). entries x.value j) is ∙ others j (λ e. other (e ∙ number)) ∙ sym (ap (λ (x : HoldValue V E F). entries x.out j) is);
  }
    where
      number : whole.pass.number ≡ k.part.number
      number = sym (ap (λ (x : HoldValue V E F). x.pass.number) is) ∙ ap (λ (x : Sat V E F). number_of x.0) k.is

module _ {V E F : Type 0} (entries : V → ℕ → List E) where
  -- the seat after it gave the value back
  pub given_is : (f : F) (h : ℕ) (out v : V) (m m' m'' : Sat V E F) (k : IsHold f h out m) → m' ≡ (m.0, (0, Some v) ∷ rest m.1)
      → ((w : V) → m'.1 ≡ (0, Some w) ∷ [] → m'' ≡ (map (giving_part (entries w)) m'.0, [])) → m'' ≡ (giving_part (entries v) k.part ∷ [], [])
  given_is f h out v m m' m'' k e then =
      let is = exchanged_is m m' (k.part ∷ []) None (Some v) k.is e in
      then v (ap (λ (x : Sat V E F). x.1) is) ∙ ap (λ (x : Sat V E F). (map (giving_part (entries v)) x.0, [])) is

  abbrev pub giving_keeps : (f : F) (h : ℕ) (out v : V) (m m'' : Sat V E F) (k : IsHold f h out m) → m'' ≡ (giving_part (entries v) k.part ∷ [], []) → IsPass f m''
  giving_keeps f h out v m m'' k e = record { part = giving_part (entries v) k.part; is = e; idle = refl; same = k.same }

  -- and what a contract sees of it
  pub given_shows : (id id' : TableId) (f : F) (h : ℕ) (out v : V) (m m'' : Sat V E F) (whole : HoldValue V E F) (k : IsHold f h out m) → id' ≡ id
      → record { pass = pass_value id f m.0; value = v; out = out } ≡ whole → m'' ≡ (giving_part (entries v) k.part ∷ [], [])
      → pass_value id' f m''.0 ≡ given_pass (entries whole.value whole.pass.number) whole.pass
  given_shows id id' f h out v m m'' whole k same is e =
      ap (λ (x : TableId). pass_value x f m''.0) same ∙ ap (λ (x : Sat V E F). pass_value id f x.0) e
      ∙ ap (λ (x : Sat V E F). given_pass (entries v (number_of x.0)) (pass_value id f x.0)) (sym k.is)
      ∙ ap (λ (x : HoldValue V E F). given_pass (entries x.value x.pass.number) x.pass) is
