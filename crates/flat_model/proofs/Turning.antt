-- What the regions of a box tell, whatever rotated in before.
use Rattle.std.proofs.Common.{◌≡◌, ℕ, zero, suc, ◌-◌, ◌<◌, ◌≤◌, Bool, true, false, List, [], ◌∷◌, ◌++◌, length, replicate, set, Option, Some, None, refl, sym, ◌∙◌, ap, subst, arith, inl, inr, ◌⊎◌}
use Rattle.std.specs.Prelude.{slice_set, if◌then◌else◌}
use Rattle.std.specs.List.{slice_get}
use Rattle.std.specs.Option.{option_map_or}
use Rattle.std.proofs.lemmas.Bool.{cases_eq, false≢true}
use Rattle.std.proofs.Math.ListN.{length-append, length-replicate, length-set}
use Rattle.addr_base.specs.declared.pairs.Pair.{Pair}
use Rattle.addr_base.specs.declared.pairs.Verdict.TheVariants.{Granted, Denied}
use Rattle.addr_base.specs.declared.rights.Kind.{Kind}
use Rattle.flat_model.specs.Greatest.{greatest, IsGreatest, Says}
use Rattle.flat_model.specs.Decision.{decision, is_granted, matches, matches_at, pair_gives, verdict_of}
use Rattle.flat_model.specs.Plan.{first_serving, no_pair, slots_from}
use Rattle.flat_model.specs.Circle.{IsTurnedBy, OnCircle}
use Rattle.flat_model.proofs.Elements.{slice_get-set_same, slice_get-set_other}
use Rattle.flat_model.proofs.Greatness.{Says-greatest}

-- the pair that rotates in at an access: the first that serves it, where the regions deny it
abbrev pub rotated_pair : List Pair → List Pair → ℕ → Kind → Option Pair
rotated_pair plan pairs a kind = if is_granted (decision pairs a kind) then None else first_serving a kind plan

-- the regions once that pair stands in the circle's slot
abbrev pub touched_pairs : List Pair → List Pair → ℕ → ℕ → Kind → List Pair
touched_pairs plan pairs slot a kind = option_map_or (slice_set pairs slot) (rotated_pair plan pairs a kind) pairs

-- the regions of a switch
pub IsTurnedBy-switch : (From : Pair → Type 0) (slots : List Pair) → IsTurnedBy From slots slots
IsTurnedBy-switch From slots = record { same_length = refl; each = λ j. inl refl }

-- a weaker fact
pub IsTurnedBy-weaker : (From To : Pair → Type 0) → ((p : Pair) → From p → To p) → (slots pairs : List Pair) → IsTurnedBy From slots pairs → IsTurnedBy To slots pairs
IsTurnedBy-weaker From To weaker slots pairs turned = record {
  same_length = turned.same_length;
  each = λ j. elim (turned.each j) [
    | inl same ↦ inl same
    | inr other ↦ inr (other.0, other.1, other.2, weaker other.1 other.3)
  ];
}

-- one more region that rotates in
pub IsTurnedBy-set : (From : Pair → Type 0) (slots pairs : List Pair) (c : ℕ) (p : Pair) → IsTurnedBy From slots pairs → OnCircle (length slots) c → From p → IsTurnedBy From slots (set pairs c p)
IsTurnedBy-set From slots pairs c p turned on from = record {
  same_length = length-set pairs c p ∙ turned.same_length;
  each = λ j. elim (cases_eq j c) [
    | inl same ↦ inr (
      subst (OnCircle (length slots)) (sym same) on,
      p,
      subst (λ i. slice_get (set pairs c p) i ≡ Some p) (sym same) (slice_get-set_same pairs c p (omega (arith, turned.same_length, on.0, on.1))),
      from,
    )
    | inr other ↦ elim (turned.each j) [
      | inl kept ↦ inl (slice_get-set_other pairs c j p other ∙ kept)
      | inr moved ↦ inr (moved.0, moved.1, slice_get-set_other pairs c j p other ∙ moved.2, moved.3)
    ]
  ];
}

-- ---- which regions stand in a turned unit

pub length-slots_from : (regions : ℕ) (flash own top : Pair) → 4 ≤ regions → length (slots_from regions flash own top) ≡ regions
length-slots_from regions flash own top enough =
    simp (length-append, length-replicate) (omega (arith))

at_middle : (n k : ℕ) (top p : Pair) → slice_get (replicate n no_pair ++ top ∷ []) k ≡ Some p → (p ≡ no_pair) ⊎ ((k ≡ n) × (p ≡ top))
at_middle zero zero top p found = inr (refl, cc)
at_middle zero (suc k) top p found = absurd (cc)
at_middle (suc n) zero top p found = inl (cc)
at_middle (suc n) (suc k) top p found = elim (at_middle n k top p found) [
  | inl off ↦ inl off
  | inr last ↦ inr (ap suc last.0, last.1)
]

top_at : (n : ℕ) (top : Pair) → slice_get (replicate n no_pair ++ top ∷ []) n ≡ Some top
top_at zero top = refl
top_at (suc n) top = top_at n top

-- a region of a switch
pub slot_cases : (regions : ℕ) (flash own top : Pair) (j : ℕ) (p : Pair) → slice_get (slots_from regions flash own top) j ≡ Some p → ((j ≡ 0) × (p ≡ flash)) ⊎ ((p ≡ own) ⊎ ((p ≡ no_pair) ⊎ (p ≡ top)))
slot_cases regions flash own top zero p found = inl (refl, cc)
slot_cases regions flash own top (suc zero) p found = inr (inl (cc))
slot_cases regions flash own top (suc (suc k)) p found = elim (at_middle (regions - 3) k top p found) [
  | inl off ↦ inr (inr (inl off))
  | inr last ↦ inr (inr (inr last.1))
]

-- the last region of a switch
pub top_slot : (regions : ℕ) (flash own top : Pair) → 4 ≤ regions → slice_get (slots_from regions flash own top) (regions - 1) ≡ Some top
top_slot regions flash own top enough =
    let place : regions - 1 ≡ suc (suc (regions - 3)) = omega arith in
    subst (λ i. slice_get (slots_from regions flash own top) i ≡ Some top) (sym place) (top_at (regions - 3) top)

-- a disabled region has no address
pub matches-no_pair : (a : ℕ) → matches no_pair a ≡ false
matches-no_pair a = refl

pub matches_at-some : (pairs : List Pair) (a j : ℕ) (p : Pair) → slice_get pairs j ≡ Some p → matches_at pairs a j ≡ matches p a
matches_at-some pairs a j p found = ap (λ o. option_map_or (λ q. matches q a) o false) found

matched : (pairs : List Pair) (a j : ℕ) → matches_at pairs a j ≡ true → (p : Pair) × (slice_get pairs j ≡ Some p) × (matches p a ≡ true)
matched pairs a j here = found (slice_get pairs j) refl here
  where
    found : (o : Option Pair) → slice_get pairs j ≡ o → option_map_or (λ p. matches p a) o false ≡ true → (p : Pair) × (slice_get pairs j ≡ Some p) × (matches p a ≡ true)
    found None is here = absurd (false≢true here)
    found (Some p) is here = (p, is, here)

-- the kind of region that decides
abbrev pub IsDecider : (From : Pair → Type 0) (flash own top : Pair) (a : ℕ) (p : Pair) → Type 0
IsDecider From flash own top a p =
    ((p ≡ flash) × (matches top a ≡ false)) ⊎ ((p ≡ own) ⊎ ((p ≡ top) ⊎ From p))

-- what decides an access that some region matches
pub record IsDecided (From : Pair → Type 0) (flash own top : Pair) (pairs : List Pair) (a : ℕ) : Type 0 where
  pub pair : Pair
  pub matched : matches pair a ≡ true
  pub decider : IsDecider From flash own top a pair
  pub told : (kind : Kind) → is_granted (decision pairs a kind) ≡ pair_gives pair kind

is_granted-verdict : (pairs : List Pair) (kind : Kind) (s : ℕ) (p : Pair) → slice_get pairs s ≡ Some p → is_granted (verdict_of pairs kind (Some s)) ≡ pair_gives p kind
is_granted-verdict pairs kind s p found = rw found (granted (pair_gives p kind))
  where
    granted : (b : Bool) → is_granted (if b then Granted s else Denied) ≡ b
    granted true = refl
    granted false = refl

module _ (From : Pair → Type 0) (regions : ℕ) (flash own top : Pair) (enough : 4 ≤ regions) (pairs : List Pair) (turned : IsTurnedBy From (slots_from regions flash own top) pairs) where
  regions_are : length pairs ≡ regions
  regions_are = turned.same_length ∙ length-slots_from regions flash own top enough

  -- the last region is that of the switch
  top_stays : slice_get pairs (regions - 1) ≡ Some top
  top_stays = elim (turned.each (regions - 1)) [
    | inl same ↦ same ∙ top_slot regions flash own top enough
    | inr moved ↦ absurd (omega (arith, moved.0.1, length-slots_from regions flash own top enough))
  ]

  IsDecider-at : (a s : ℕ) (p : Pair) → IsGreatest (matches_at pairs a) (length pairs) s → slice_get pairs s ≡ Some p → matches p a ≡ true → IsDecider From flash own top a p
  IsDecider-at a s p it found hit = elim (turned.each s) [
    | inr moved ↦ let same : moved.1 ≡ p = cc in inr (inr (inr (subst From same moved.3)))
    | inl kept ↦ elim (slot_cases regions flash own top s p (sym kept ∙ found)) [
      | inl first ↦ inl (first.1, sym (matches_at-some pairs a (regions - 1) top top_stays) ∙ it.above (regions - 1) (omega (arith, first.0)) (omega (arith, regions_are)))
      | inr rest ↦ elim rest [
        | inl is_own ↦ inr (inl is_own)
        | inr rest ↦ elim rest [
          | inl off ↦ absurd (false≢true (sym (ap (λ q. matches q a) off) ∙ hit))
          | inr is_top ↦ inr (inr (inl is_top))
        ]
      ]
    ]
  ]

  -- either no region has the address and every kind is denied, or a known region decides
  pub decided : (a : ℕ) → (((j : ℕ) → j < length pairs → matches_at pairs a j ≡ false) × ((kind : Kind) → decision pairs a kind ≡ Denied)) ⊎ IsDecided From flash own top pairs a
  decided a = from_says (greatest (matches_at pairs a) (length pairs)) refl (Says-greatest (matches_at pairs a) (length pairs))
    where
      from_says : (o : Option ℕ) → greatest (matches_at pairs a) (length pairs) ≡ o → Says (matches_at pairs a) (length pairs) o → (((j : ℕ) → j < length pairs → matches_at pairs a j ≡ false) × ((kind : Kind) → decision pairs a kind ≡ Denied)) ⊎ IsDecided From flash own top pairs a
      from_says None is says = inl (says, λ kind. ap (verdict_of pairs kind) is)
      from_says (Some s) is says =
          let it = matched pairs a s says.here in
          inr (record {
            pair = it.0;
            matched = it.2;
            decider = IsDecider-at a s it.0 says it.1 it.2;
            told = λ kind. ap (λ o. is_granted (verdict_of pairs kind o)) is ∙ is_granted-verdict pairs kind s it.0 it.1;
          })
