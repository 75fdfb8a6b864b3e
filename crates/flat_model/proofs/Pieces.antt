-- Sets of addresses that are apart from one another, each with the kinds that it gives.
use Rattle.std.proofs.Common.{◌≡◌, ℕ, zero, suc, Bool, true, false, List, [], ◌∷◌, Some, refl, sym, ◌∙◌, ap, inl, inr}
use Rattle.std.specs.Prelude.{◌&&◌, ◌||◌}
use Rattle.std.specs.List.{AllByRecursion, list_any, slice_get}
use Rattle.std.proofs.lemmas.Bool.{cases_Bool, false≢true, and_parts}
use Rattle.addr_base.specs.declared.rights.Kind.{Kind}
use Rattle.flat_model.proofs.Elements.{each-get, list_any_found}

-- a set of addresses and the kinds of access that it gives
pub record Piece : Type 0 where
  pub has : ℕ → Bool
  pub gives : Kind → Bool

-- what the pieces hold together
abbrev pub held_by : List Piece → ℕ → Kind → Bool
held_by pieces a kind = list_any (λ x. x.has a && x.gives kind) pieces

-- no address is in two of the pieces
abbrev pub ArePiecesApart : List Piece → Type 0
ArePiecesApart [] = Unit {0}
ArePiecesApart (x ∷ xs) =
    ((a : ℕ) → x.has a ≡ true → AllByRecursion (λ y. y.has a ≡ false) xs) × ArePiecesApart xs

pub none_held : (xs : List Piece) (a : ℕ) (kind : Kind) → AllByRecursion (λ y. y.has a ≡ false) xs → held_by xs a kind ≡ false
none_held [] a kind each = refl
none_held (x ∷ xs) a kind each = rw each.0 (none_held xs a kind each.1)

-- at an address of a piece, what is held is what that piece gives
pub held_by-at : (xs : List Piece) (a : ℕ) (kind : Kind) (i : ℕ) (x : Piece) → ArePiecesApart xs → slice_get xs i ≡ Some x → x.has a ≡ true → held_by xs a kind ≡ x.gives kind
held_by-at [] a kind i x apart found here = absurd (cc)
held_by-at (y ∷ ys) a kind zero x apart found here =
    let same : y ≡ x = cc in
    let in_y : y.has a ≡ true = ap (λ z. z.has a) same ∙ here in
    rw (in_y, none_held ys a kind (apart.0 a in_y)) (alone (y.gives kind) ∙ ap (λ z. z.gives kind) same)
  where
    alone : (b : Bool) → (b || false) ≡ b
    alone true = refl
    alone false = refl
held_by-at (y ∷ ys) a kind (suc i) x apart found here = elim (cases_Bool (y.has a)) [
  | inl in_y ↦ absurd (false≢true (sym (each-get (λ z. z.has a ≡ false) ys i x (apart.0 a in_y) found) ∙ here))
  | inr off ↦ rw off (held_by-at ys a kind i x apart.1 found here)
]

-- what is held is in a piece that gives the kind
pub record IsIn (xs : List Piece) (a : ℕ) (kind : Kind) : Type 0 where
  pub place : ℕ
  pub piece : Piece
  pub at : slice_get xs place ≡ Some piece
  pub here : piece.has a ≡ true
  pub given : piece.gives kind ≡ true

pub IsIn-held_by : (xs : List Piece) (a : ℕ) (kind : Kind) → held_by xs a kind ≡ true → IsIn xs a kind
IsIn-held_by xs a kind held =
    let it = list_any_found (λ x. x.has a && x.gives kind) xs held in
    let parts = and_parts (it.1.has a) (it.1.gives kind) it.3 in
    record { place = it.0; piece = it.1; at = it.2; here = parts.0; given = parts.1 }
