-- The grants of a box that is not refused are sound.
use Rattle.std.proofs.Common.{◌≡◌, ℕ, ◌+◌, ◌%◌, ◌^◌, ◌<◌, ◌≤◌, Bool, true, false, ◌&&◌, cond, max, min, List, [], ◌∷◌, ◌++◌, map, Option, Some, None, refl, sym, subst, ◌∙◌, inl, inr, ◌⊎◌, arith}
use Rattle.std.specs.Prelude.{is_none, nat_eq, nat_le, nat_lt, not, option_and_then, unwrap_or}
use Rattle.std.specs.List.{AllByRecursion}
use Rattle.std.proofs.lemmas.Bool.{and_parts, eqb-true, false_from_ne_true, leb-true, ltb-false, ltb-true, not-true, not-false, or_cases, or_parts, eqb-false}
use Rattle.std.proofs.lemmas.List.Folds.{list_any-append}
use Rattle.std.proofs.Math.Nat.{mod_self}
use Rattle.addr_base.specs.declared.ranges.Range.{Range}
use Rattle.addr_base.specs.Powers.{round_down, round_up}
use Rattle.addr_base.specs.Range.{end_of, in_range, overlap}
use Rattle.flat_model.specs.declared.boards.Board.{Board}
use Rattle.flat_model.specs.declared.texts.BoxText.{BoxText}
use Rattle.flat_model.specs.declared.texts.GrantText.{GrantText}
use Rattle.flat_model.specs.declared.texts.Round.{Round}
use Rattle.flat_model.specs.declared.texts.Round.TheVariants as round
use Rattle.flat_model.specs.First.{first_after, number}
use Rattle.flat_model.specs.Sound.{AreApart, AreGrantsApart, IsGrant, IsInside, IsTiledRange}
use Rattle.flat_model.proofs.Powers.{at_least_32, divides_below}
use Rattle.acl_resolver.specs.Refusals.{bad_grant_at, bad_grant_of, do_overlap, is_grantable, is_inside, outside_at, outside_of, overlaps_one, range_as_written, range_at_multiple, rounded, rounded_by, rounded_range, self_overlap_at, self_overlap_of}
use Rattle.acl_resolver.specs.Resolvable.{IsGrantText}
use Rattle.acl_resolver.specs.Resolve.{grant_item}
use Rattle.acl_resolver.proofs.PlaceLemmas.{IsLargePower, large_down, large_up}
use Rattle.acl_resolver.proofs.Unrefused.{all_both, all_made, all_weaker, each_numbered, not_refused}

only : {A : Type 0} (b : Bool) (x y : A) → cond b (Some x) None ≡ Some y → (b ≡ true) × (x ≡ y)
only true x y h = (refl, cc)
only false x y h = cc

power_tiled : (base len : ℕ) → IsLargePower len → base % len ≡ 0 → IsTiledRange (record { base = base; len = len })
power_tiled base len large whole =
    let P : ℕ → Type 0 = λ n. base % n ≡ 0 → IsTiledRange (record { base = base; len = n }) in
    subst P (sym large.same) (λ parts. record {
      enough = at_least_32 large.exponent large.large;
      base = divides_below 5 large.exponent base large.large parts;
      len = divides_below 5 large.exponent (2 ^ large.exponent) large.large (mod_self (2 ^ large.exponent));
    }) whole

written_tiled : (base len : ℕ) (range : Range) → range_as_written base len ≡ Some range → IsTiledRange range
written_tiled base len range h =
    let only_if = only (nat_eq (base % 32) 0 && nat_eq (len % 32) 0 && not (nat_eq len 0)) (record { base = base; len = len }) range h in
    let outer = and_parts (nat_eq (base % 32) 0 && nat_eq (len % 32) 0) (not (nat_eq len 0)) only_if.0 in
    let inner = and_parts (nat_eq (base % 32) 0) (nat_eq (len % 32) 0) outer.0 in
    let base_whole : base % 32 ≡ 0 = eqb-true (base % 32) 0 inner.0 in
    let len_whole : len % 32 ≡ 0 = eqb-true (len % 32) 0 inner.1 in
    let some : len ≡ 0 → ⊥ = eqb-false len 0 (not-true (nat_eq len 0) outer.1) in
    subst IsTiledRange only_if.1 (record { enough = enough_from len len_whole some; base = base_whole; len = len_whole })
  where
    enough_from : (n : ℕ) → n % 32 ≡ 0 → (n ≡ 0 → ⊥) → 32 ≤ n
    enough_from n whole some = omega arith

multiple_tiled : (base : ℕ) (o : Option ℕ) → ((p : ℕ) → o ≡ Some p → IsLargePower p) → (range : Range)
    → option_and_then (range_at_multiple base) o ≡ Some range → IsTiledRange range
multiple_tiled base None large range h = cc
multiple_tiled base (Some len) large range h =
    let only_if = only (nat_eq (base % len) 0) (record { base = base; len = len }) range h in
    subst IsTiledRange only_if.1 (power_tiled base len (large len refl) (eqb-true (base % len) 0 only_if.0))

by_tiled : (r : Round) (base len : ℕ) (range : Range) → rounded_by r base len ≡ Some range → IsTiledRange range
by_tiled round.Plain base len range h = written_tiled base len range h
by_tiled round.Up base len range h = multiple_tiled base (round_up len) (large_up len) range h
by_tiled round.Down base len range h = multiple_tiled base (round_down len) (large_down len) range h

some_tiled : (o : Option Range) (d : Range) → ((range : Range) → o ≡ Some range → IsTiledRange range) → is_none o ≡ false → IsTiledRange (unwrap_or o d)
some_tiled None d tiled h = cc
some_tiled (Some range) d tiled h = tiled range refl

-- a grant whose rounding rule holds is tiled once it is rounded
pub grant_tiled : (i j : ℕ) (grant : GrantText) → bad_grant_at i j grant ≡ None → IsTiledRange (rounded_range grant)
grant_tiled i j grant h =
    some_tiled (rounded grant) (record { base = grant.base; len = grant.len }) (by_tiled grant.round grant.base grant.len)
    (not_refused (is_none (rounded grant)) _ h)

inside : (inner outer : Range) → is_inside inner outer ≡ true → IsInside inner outer
inside inner outer h =
    let both = and_parts (nat_le outer.base inner.base) (nat_le (end_of inner) (end_of outer)) h in
    (leb-true outer.base inner.base both.0, leb-true (end_of inner) (end_of outer) both.1)

placed : (board : Board) (common range : Range) → is_grantable board common range ≡ true → IsInside range board.peripherals ⊎ IsInside range common
placed board common range h = elim (or_cases (is_inside range board.peripherals) (is_inside range common) h) [
  | inl here ↦ inl (inside range board.peripherals here)
  | inr there ↦ inr (inside range common there)
]

-- the grants of a box are sound, each for itself
pub grants_sound : (board : Board) (common : Range) (i j : ℕ) (b : BoxText) → AllByRecursion IsGrantText b.grants → bad_grant_of i b ≡ None
    → outside_of board common j b ≡ None → AllByRecursion (IsGrant board common) (map grant_item b.grants)
grants_sound board common i j b texts good within =
    all_made grant_item (IsGrant board common) b.grants
    (all_weaker (λ grant. IsGrantText grant × (IsTiledRange (rounded_range grant) × (is_grantable board common (rounded_range grant) ≡ true))) (λ grant. IsGrant board common (grant_item grant))
    (λ grant facts. record {
      tiled = facts.1.0;
      rights = facts.0.rights;
      placed = placed board common (rounded_range grant) facts.1.1;
    })
    b.grants
    (all_both IsGrantText (λ grant. IsTiledRange (rounded_range grant) × (is_grantable board common (rounded_range grant) ≡ true)) b.grants texts
    (all_both (λ grant. IsTiledRange (rounded_range grant)) (λ grant. is_grantable board common (rounded_range grant) ≡ true) b.grants
    (each_numbered (bad_grant_at i) _ (λ n grant. grant_tiled i n grant) 0 b.grants good)
    (each_numbered (outside_at board common j) (λ grant. is_grantable board common (rounded_range grant) ≡ true)
    (λ n grant h. not-false (is_grantable board common (rounded_range grant)) (not_refused (not (is_grantable board common (rounded_range grant))) _ h))
    0 b.grants within))))

apart_at : (first second : Range) (a : ℕ) → min (end_of second) (end_of first) ≤ max second.base first.base → in_range first a ≡ true → in_range second a ≡ true → ⊥
apart_at first second a past here there =
    let in_first = and_parts (nat_le first.base a) (nat_lt a (end_of first)) here in
    let in_second = and_parts (nat_le second.base a) (nat_lt a (end_of second)) there in
    let low : first.base ≤ a = leb-true first.base a in_first.0 in
    let high : a < end_of first = ltb-true a (end_of first) in_first.1 in
    let low_other : second.base ≤ a = leb-true second.base a in_second.0 in
    let high_other : a < end_of second = ltb-true a (end_of second) in_second.1 in
    omega arith

-- ranges that do not overlap have no address in common
pub ranges_apart : (first second : Range) → overlap second first ≡ false → AreApart first second
ranges_apart first second h a here =
    false_from_ne_true (in_range second a)
    (λ there. apart_at first second a (ltb-false (max second.base first.base) (min (end_of second) (end_of first)) h) here there)

none_here : {A : Type 0} (b : Bool) (x : A) (o : Option A) → cond b (Some x) o ≡ None → (b ≡ false) × (o ≡ None)
none_here true x o h = cc
none_here false x o h = (refl, h)

-- no grant behind some others overlaps one of them
later_apart : (j : ℕ) (before grants : List GrantText) → first_after overlaps_one j before grants ≡ None → AllByRecursion (λ grant. overlaps_one before grant ≡ false) grants
later_apart j before [] h = tt
later_apart j before (grant ∷ grants) h =
    let both = none_here (overlaps_one before grant) (number j) (first_after overlaps_one (j + 1) (before ++ grant ∷ []) grants) h in (
      both.0,
      all_weaker (λ later. overlaps_one (before ++ grant ∷ []) later ≡ false) (λ later. overlaps_one before later ≡ false)
          (λ later past. (or_parts (overlaps_one before later) (overlaps_one (grant ∷ []) later) (sym (list_any-append (do_overlap later) before (grant ∷ [])) ∙ past)).0)
          grants (later_apart (j + 1) (before ++ grant ∷ []) grants both.1),
    )

grants_behind : (j : ℕ) (before grants : List GrantText) → first_after overlaps_one j before grants ≡ None → AreGrantsApart (map grant_item grants)
grants_behind j before [] h = tt
grants_behind j before (grant ∷ grants) h =
    let both = none_here (overlaps_one before grant) (number j) (first_after overlaps_one (j + 1) (before ++ grant ∷ []) grants) h in (
      all_made grant_item (λ other. AreApart (rounded_range grant) other.range) grants
          (all_weaker (λ later. overlaps_one (before ++ grant ∷ []) later ≡ false) (λ later. AreApart (rounded_range grant) (rounded_range later))
          (λ later past. ranges_apart (rounded_range grant) (rounded_range later)
          (or_parts (do_overlap later grant) false (or_parts (overlaps_one before later) (overlaps_one (grant ∷ []) later) (sym (list_any-append (do_overlap later) before (grant ∷ [])) ∙ past)).1).0)
          grants (later_apart (j + 1) (before ++ grant ∷ []) grants both.1)),
      grants_behind (j + 1) (before ++ grant ∷ []) grants both.1,
    )

no_overlap : (i : ℕ) (o : Option ℕ) → self_overlap_at i o ≡ None → o ≡ None
no_overlap i None h = refl
no_overlap i (Some j) h = cc

-- no two grants of a box overlap
pub grants_apart : (i : ℕ) (b : BoxText) → self_overlap_of i b ≡ None → AreGrantsApart (map grant_item b.grants)
grants_apart i b h = grants_behind 0 [] b.grants (no_overlap i (first_after overlaps_one 0 [] b.grants) h)
