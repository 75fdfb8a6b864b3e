-- What a unit grants once it recovered from a denial, for any set of held addresses.
use Rattle.std.proofs.Common.{◌≡◌, ℕ, suc, ◌<◌, ◌≤◌, Bool, true, false, List, [], ◌∷◌, length, set, Option, Some, None, refl, sym, ◌∙◌, ap, subst, arith, inl, inr, ◌⊎◌}
use Rattle.std.specs.Prelude.{is_some, if◌then◌else◌}
use Rattle.std.specs.List.{AllByRecursion, list_any, slice_get}
use Rattle.std.proofs.lemmas.Bool.{cases_Bool, false≢true, and_parts}
use Rattle.addr_base.specs.declared.pairs.Pair.{Pair}
use Rattle.addr_base.specs.declared.pairs.Verdict.{Verdict}
use Rattle.addr_base.specs.declared.pairs.Verdict.TheVariants.{Granted, Denied}
use Rattle.addr_base.specs.declared.rights.Kind.{Kind}
use Rattle.flat_model.specs.Decision.{decision, is_granted, matches, pair_gives}
use Rattle.flat_model.specs.Plan.{first_serving, serves, slots_from}
use Rattle.flat_model.specs.Circle.{IsTurnedBy, OnCircle}
use Rattle.flat_model.proofs.Elements.{each-get, list_any_found, slice_get-set_same}
use Rattle.flat_model.proofs.PageGroups.{gives_pages}
use Rattle.flat_model.proofs.Turning.{IsDecided, IsDecider, IsTurnedBy-set, IsTurnedBy-weaker, decided, length-slots_from, matches_at-some, touched_pairs}

-- wherever the pair matches, it gives exactly what is held
abbrev pub IsHonest : (ℕ → Kind → Bool) → Pair → Type 0
IsHonest held p = (a : ℕ) → matches p a ≡ true → (kind : Kind) → pair_gives p kind ≡ held a kind

-- the regions of a switch and the plan fit what is held
pub record IsSuited (held : ℕ → Kind → Bool) (flash own top : Pair) (plan : List Pair) : Type 0 where
  pub flash_gives : (a : ℕ) → matches flash a ≡ true → matches top a ≡ false → (kind : Kind) → pair_gives flash kind ≡ held a kind
  pub own_gives : IsHonest held own
  pub top_gives : IsHonest held top
  pub plan_gives : AllByRecursion (IsHonest held) plan
  pub all : (a : ℕ) (kind : Kind) → held a kind ≡ true → (matches flash a ≡ true) ⊎ ((matches own a ≡ true) ⊎ (list_any (serves a kind) plan ≡ true))

-- A pair that may be of pages that the box held before: it gives what is held, or it matches in the
-- heap, where it gives reads and writes.
abbrev pub IsLoose : (held : ℕ → Kind → Bool) → (heap : ℕ → Bool) → Pair → Type 0
IsLoose held heap p =
    (a : ℕ) → matches p a ≡ true → ((kind : Kind) → pair_gives p kind ≡ held a kind) ⊎ ((heap a ≡ true) × ((kind : Kind) → pair_gives p kind ≡ gives_pages kind))

-- the heap is apart from flash and own memory, and no fetch is held there
pub record IsHeapApart (held : ℕ → Kind → Bool) (heap : ℕ → Bool) (flash own : Pair) : Type 0 where
  pub flash_off : (a : ℕ) → heap a ≡ true → matches flash a ≡ false
  pub own_off : (a : ℕ) → heap a ≡ true → matches own a ≡ false
  pub no_fetch : (a : ℕ) (kind : Kind) → heap a ≡ true → held a kind ≡ true → gives_pages kind ≡ true

pub IsLoose-from_honest : (held : ℕ → Kind → Bool) (heap : ℕ → Bool) (p : Pair) → IsHonest held p → IsLoose held heap p
IsLoose-from_honest held heap p honest = λ a found. inl (honest a found)

-- ---- the first pair that serves

first_serving-some : (a : ℕ) (kind : Kind) (plan : List Pair) (p : Pair) → first_serving a kind plan ≡ Some p → (serves a kind p ≡ true) × ((i : ℕ) × (slice_get plan i ≡ Some p))
first_serving-some a kind [] p found = absurd (cc)
first_serving-some a kind (q ∷ qs) p found = elim (cases_Bool (serves a kind q)) [
  | inl here ↦ let same : q ≡ p = let e : Some q ≡ Some p = sym (ap (λ b. if b then Some q else first_serving a kind qs) here) ∙ found in cc in
      (subst (λ r. serves a kind r ≡ true) same here, (0, ap Some same))
  | inr off ↦
      let rest = first_serving-some a kind qs p (sym (ap (λ b. if b then Some q else first_serving a kind qs) off) ∙ found) in
      (rest.0, (suc rest.1.0, rest.1.1))
]

pub first_serving-any : (a : ℕ) (kind : Kind) (plan : List Pair) → is_some (first_serving a kind plan) ≡ list_any (serves a kind) plan
first_serving-any a kind [] = refl
first_serving-any a kind (q ∷ qs) = elim (cases_Bool (serves a kind q)) [
  | inl here ↦ rw here refl
  | inr off ↦ rw off (first_serving-any a kind qs)
]

-- where the list has it, and what it does
pub record IsFirst (a : ℕ) (kind : Kind) (plan : List Pair) (p : Pair) : Type 0 where
  pub place : ℕ
  pub at : slice_get plan place ≡ Some p
  pub matched : matches p a ≡ true
  pub given : pair_gives p kind ≡ true

pub IsFirst-first_serving : (a : ℕ) (kind : Kind) (plan : List Pair) (p : Pair) → first_serving a kind plan ≡ Some p → IsFirst a kind plan p
IsFirst-first_serving a kind plan p found =
    let it = first_serving-some a kind plan p found in
    let parts = and_parts (matches p a) (pair_gives p kind) it.0 in
    record { place = it.1.0; at = it.1.1; matched = parts.0; given = parts.1 }

module _ (held : ℕ → Kind → Bool) (heap : ℕ → Bool) (regions : ℕ) (flash own top : Pair) (plan : List Pair) (enough : 4 ≤ regions) (suited : IsSuited held flash own top plan) where
  -- a pair of the plan that serves shows that the access is held
  pub held-served : (a : ℕ) (kind : Kind) → list_any (serves a kind) plan ≡ true → held a kind ≡ true
  held-served a kind some =
      let it = list_any_found (serves a kind) plan some in
      let parts = and_parts (matches it.1 a) (pair_gives it.1 kind) it.3 in
      sym (each-get (IsHonest held) plan it.0 it.1 suited.plan_gives it.2 a parts.0 kind) ∙ parts.1

  -- An honest unit that has a region for the address gives exactly what is held.
  pub told-honest : (pairs : List Pair) (a : ℕ) → IsDecided (IsHonest held) flash own top pairs a → (kind : Kind) → is_granted (decision pairs a kind) ≡ held a kind
  told-honest pairs a it kind = it.told kind ∙ given it.decider
    where
      given : IsDecider (IsHonest held) flash own top a it.pair → pair_gives it.pair kind ≡ held a kind
      given (inl base) = ap (λ p. pair_gives p kind) base.0 ∙ suited.flash_gives a (sym (ap (λ p. matches p a) base.0) ∙ it.matched) base.1 kind
      given (inr (inl is_own)) = ap (λ p. pair_gives p kind) is_own ∙ suited.own_gives a (sym (ap (λ p. matches p a) is_own) ∙ it.matched) kind
      given (inr (inr (inl is_top))) = ap (λ p. pair_gives p kind) is_top ∙ suited.top_gives a (sym (ap (λ p. matches p a) is_top) ∙ it.matched) kind
      given (inr (inr (inr from))) = from a it.matched kind

  module _ (apart : IsHeapApart held heap flash own) where
    -- the same of a loose unit, but for what it gives in the heap
    told-loose : (pairs : List Pair) (a : ℕ) → IsDecided (IsLoose held heap) flash own top pairs a → ((kind : Kind) → is_granted (decision pairs a kind) ≡ held a kind) ⊎ ((heap a ≡ true) × ((kind : Kind) → is_granted (decision pairs a kind) ≡ gives_pages kind))
    told-loose pairs a it = given it.decider
      where
        given : IsDecider (IsLoose held heap) flash own top a it.pair → ((kind : Kind) → is_granted (decision pairs a kind) ≡ held a kind) ⊎ ((heap a ≡ true) × ((kind : Kind) → is_granted (decision pairs a kind) ≡ gives_pages kind))
        given (inl base) = inl (λ kind. it.told kind ∙ ap (λ p. pair_gives p kind) base.0 ∙ suited.flash_gives a (sym (ap (λ p. matches p a) base.0) ∙ it.matched) base.1 kind)
        given (inr (inl is_own)) = inl (λ kind. it.told kind ∙ ap (λ p. pair_gives p kind) is_own ∙ suited.own_gives a (sym (ap (λ p. matches p a) is_own) ∙ it.matched) kind)
        given (inr (inr (inl is_top))) = inl (λ kind. it.told kind ∙ ap (λ p. pair_gives p kind) is_top ∙ suited.top_gives a (sym (ap (λ p. matches p a) is_top) ∙ it.matched) kind)
        given (inr (inr (inr from))) = elim (from a it.matched) [
          | inl honest ↦ inl (λ kind. it.told kind ∙ honest kind)
          | inr wide ↦ inr (wide.0, λ kind. it.told kind ∙ wide.1 kind)
        ]

    -- a region of slot 0 or 1 that has an address outside the heap decides or is outranked by one that grants what is held
    low_slot : (pairs : List Pair) (a : ℕ) (kind : Kind) → IsTurnedBy (IsLoose held heap) (slots_from regions flash own top) pairs → decision pairs a kind ≡ Denied → held a kind ≡ true → (heap a ≡ true → ⊥) → (j : ℕ) (p : Pair) → j < 2 → slice_get (slots_from regions flash own top) j ≡ Some p → matches p a ≡ true → ⊥
    low_slot pairs a kind turned denied holds off j p low at hit =
        let len : length (slots_from regions flash own top) ≡ regions = length-slots_from regions flash own top enough in
        let stands : slice_get pairs j ≡ Some p = elim (turned.each j) [
          | inl kept ↦ kept ∙ at
          | inr moved ↦ absurd (omega (arith, moved.0.0))
        ] in
        elim (decided (IsLoose held heap) regions flash own top enough pairs turned a) [
          | inl none ↦ false≢true (sym (none.0 j (omega (arith, turned.same_length, len))) ∙ matches_at-some pairs a j p stands ∙ hit)
          | inr it ↦ elim (told-loose pairs a it) [
            | inl honest ↦ false≢true (sym (ap is_granted denied) ∙ honest kind ∙ holds)
            | inr wide ↦ off wide.0
          ]
        ]

    -- What is held and yet denied is served by a pair of the plan.
    served : (pairs : List Pair) (a : ℕ) (kind : Kind) → IsTurnedBy (IsLoose held heap) (slots_from regions flash own top) pairs → decision pairs a kind ≡ Denied → held a kind ≡ true → list_any (serves a kind) plan ≡ true
    served pairs a kind turned denied holds = elim (suited.all a kind holds) [
      | inl by_flash ↦ absurd (low_slot pairs a kind turned denied holds (λ wide. false≢true (sym (apart.flash_off a wide) ∙ by_flash)) 0 flash (omega arith) refl by_flash)
      | inr rest ↦ elim rest [
        | inl by_own ↦ absurd (low_slot pairs a kind turned denied holds (λ wide. false≢true (sym (apart.own_off a wide) ∙ by_own)) 1 own (omega arith) refl by_own)
        | inr by_plan ↦ by_plan
      ]
    ]

    -- After a denial a pair of the plan serves exactly where the access is held.
    pub recovers : (pairs : List Pair) (a : ℕ) (kind : Kind) → IsTurnedBy (IsLoose held heap) (slots_from regions flash own top) pairs → decision pairs a kind ≡ Denied → is_some (first_serving a kind plan) ≡ held a kind
    recovers pairs a kind turned denied = elim (cases_Bool (held a kind)) [
      | inl holds ↦ first_serving-any a kind plan ∙ served pairs a kind turned denied holds ∙ sym holds
      | inr not_held ↦ elim (cases_Bool (list_any (serves a kind) plan)) [
        | inl some ↦ absurd (false≢true (sym not_held ∙ held-served a kind some))
        | inr none ↦ first_serving-any a kind plan ∙ none ∙ sym not_held
      ]
    ]

    -- the pair that rotates in makes the access granted
    pub granted-after : (pairs : List Pair) (a : ℕ) (kind : Kind) (c : ℕ) (p : Pair) → IsTurnedBy (IsLoose held heap) (slots_from regions flash own top) pairs → OnCircle regions c → first_serving a kind plan ≡ Some p → is_granted (decision (set pairs c p) a kind) ≡ true
    granted-after pairs a kind c p turned on found =
        let len : length (slots_from regions flash own top) ≡ regions = length-slots_from regions flash own top enough in
        let it = IsFirst-first_serving a kind plan p found in
        let honest : IsHonest held p = each-get (IsHonest held) plan it.place p suited.plan_gives it.at in
        let holds : held a kind ≡ true = sym (honest a it.matched kind) ∙ it.given in
        let within : OnCircle (length (slots_from regions flash own top)) c = (on.0, omega (arith, on.1, len)) in
        let after = IsTurnedBy-set (IsLoose held heap) (slots_from regions flash own top) pairs c p turned within (IsLoose-from_honest held heap p honest) in
        let stands : slice_get (set pairs c p) c ≡ Some p = slice_get-set_same pairs c p (omega (arith, turned.same_length, len, on.1)) in
        elim (decided (IsLoose held heap) regions flash own top enough (set pairs c p) after a) [
          | inl none ↦ absurd (false≢true (sym (none.0 c (omega (arith, after.same_length, len, on.1))) ∙ matches_at-some (set pairs c p) a c p stands ∙ it.matched))
          | inr it ↦ elim (told-loose (set pairs c p) a it) [
            | inl honest ↦ honest kind ∙ holds
            | inr wide ↦ wide.1 kind ∙ apart.no_fetch a kind wide.0 holds
          ]
        ]

    -- After a denial and what rotates in, the unit grants exactly what is held.
    pub granted-recovered : (pairs : List Pair) (a : ℕ) (kind : Kind) (c : ℕ) → IsTurnedBy (IsLoose held heap) (slots_from regions flash own top) pairs → OnCircle regions c → decision pairs a kind ≡ Denied → is_granted (decision (touched_pairs plan pairs c a kind) a kind) ≡ held a kind
    granted-recovered pairs a kind c turned on denied = from_first (first_serving a kind plan) refl
      where
        from_first : (o : Option Pair) → first_serving a kind plan ≡ o → is_granted (decision (touched_pairs plan pairs c a kind) a kind) ≡ held a kind
        from_first None is =
            rw (denied, is) (ap is_granted denied ∙ sym (ap is_some is) ∙ recovers pairs a kind turned denied)
        from_first (Some p) is =
            rw (denied, is) (granted-after pairs a kind c p turned on is ∙ sym (ap is_some is) ∙ recovers pairs a kind turned denied)

denied-from : (v : Verdict) → is_granted v ≡ false → v ≡ Denied
denied-from (Granted s) off = absurd (false≢true (sym off))
denied-from Denied off = refl

-- Whatever rotated in before, an access is granted exactly where it is held, once what serves it rotated in.
pub granted-touched : (held : ℕ → Kind → Bool) (regions : ℕ) (flash own top : Pair) (plan pairs : List Pair) (a : ℕ) (kind : Kind) (c : ℕ) → 4 ≤ regions → IsSuited held flash own top plan → IsTurnedBy (IsHonest held) (slots_from regions flash own top) pairs → OnCircle regions c → is_granted (decision (touched_pairs plan pairs c a kind) a kind) ≡ held a kind
granted-touched held regions flash own top plan pairs a kind c enough suited turned on = elim (cases_Bool (is_granted (decision pairs a kind))) [
  | inl granted ↦ rw granted (elim (decided (IsHonest held) regions flash own top enough pairs turned a) [
    | inl none ↦ absurd (false≢true (sym (ap is_granted (none.1 kind)) ∙ granted))
    | inr it ↦ told-honest held (λ b. false) regions flash own top plan enough suited pairs a it kind
  ])
  | inr not_granted ↦
      granted-recovered held (λ b. false) regions flash own top plan enough suited
      (record { flash_off = λ b off. absurd (false≢true off); own_off = λ b off. absurd (false≢true off); no_fetch = λ b k off. absurd (false≢true off) })
      pairs a kind c
      (IsTurnedBy-weaker (IsHonest held) (IsLoose held (λ b. false)) (IsLoose-from_honest held (λ b. false)) (slots_from regions flash own top) pairs turned)
      on (denied-from (decision pairs a kind) not_granted)
]
