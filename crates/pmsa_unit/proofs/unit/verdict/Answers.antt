use Rattle.std.proofs.Common.{◌≡◌, ℕ, true, false, ◌<◌, ◌-◌, ◌≤◌, List, length, arith, inl, inr, sym, ◌∙◌, ap, subst}
use Rattle.std.specs.Prelude.{if◌then◌else◌, slice_index_or}
use Rattle.std.proofs.lemmas.Bool.{cases_eq}
use Rattle.std.proofs.lemmas.Option.{slice_get-get_or}
use Rattle.addr_base.specs.declared.pairs.Pair.{Pair}
use Rattle.addr_base.specs.declared.pairs.Verdict.TheVariants.{Granted, Denied}
use Rattle.addr_base.specs.declared.rights.Kind.{Kind}
use Rattle.flat_model.specs.Decision.{decision, matches, matches_at, pair_gives}
use Rattle.flat_model.specs.Plan.{no_pair}
use Rattle.flat_model.proofs.Deciding.{decision-at, decision-none}
use Rattle.flat_model.proofs.Turning.{matches_at-some}
use Rattle.pmsa_unit.proofs.unit.verdict.Goals as goal

-- the first region from above that has the address decides
decided : (pairs : List Pair) (a : ℕ) (kind : Kind) (slot : ℕ) → length pairs ≡ 8 → 0 < slot → slot ≤ 8 → ((j : ℕ) → slot ≤ j → j < 8 → matches_at pairs a j ≡ false) → matches (slice_index_or pairs (slot - 1) no_pair) a ≡ true → decision pairs a kind ≡ (if pair_gives (slice_index_or pairs (slot - 1) no_pair) kind then Granted (slot - 1) else Denied)
decided pairs a kind slot len some low none hit =
    decision-at pairs a kind (slot - 1) (slice_index_or pairs (slot - 1) no_pair)
    (slice_get-get_or pairs (slot - 1) no_pair (omega arith)) hit (λ j after below. none j (omega arith) (omega arith))

-- one more region that lacks the address
passed : (pairs : List Pair) (a slot : ℕ) → length pairs ≡ 8 → 0 < slot → slot ≤ 8 → ((j : ℕ) → slot ≤ j → j < 8 → matches_at pairs a j ≡ false) → matches (slice_index_or pairs (slot - 1) no_pair) a ≡ false → (j : ℕ) → slot - 1 ≤ j → j < 8 → matches_at pairs a j ≡ false
passed pairs a slot len some low none miss j after below = elim (cases_eq j (slot - 1)) [
  | inl same ↦ subst (λ i. matches_at pairs a i ≡ false) (sym same)
      (matches_at-some pairs a (slot - 1) (slice_index_or pairs (slot - 1) no_pair) (slice_get-get_or pairs (slot - 1) no_pair (omega arith)) ∙ miss)
  | inr other ↦ none j (past j slot some after other) below
]
  where
    past : (j slot : ℕ) → 0 < slot → slot - 1 ≤ j → (j ≡ slot - 1 → ⊥) → slot ≤ j
    past j slot some after other = omega (arith, other)

pub returns-then-gives_kind : goal.returns-then-gives_kind
returns-then-gives_kind c =
    let s : ℕ = c.loop-slot.slot in
    let hit : matches (slice_index_or c.args.pairs.now (s - 1) no_pair) c.args.a ≡ true = sym c.matches_address.ensures ∙ c.if-matches_address.true in
    let given : pair_gives (slice_index_or c.args.pairs.now (s - 1) no_pair) c.args.kind ≡ true = sym c.gives_kind.ensures ∙ c.if-gives_kind.true in
    sym (decided c.args.pairs.now c.args.a c.args.kind s c.told-pairs (omega arith) (omega arith) c.loop-slot.invariant hit
    ∙ ap (λ t. if t then Granted (s - 1) else Denied) given)

pub returns-else-gives_kind : goal.returns-else-gives_kind
returns-else-gives_kind c =
    let s : ℕ = c.loop-slot.slot in
    let hit : matches (slice_index_or c.args.pairs.now (s - 1) no_pair) c.args.a ≡ true = sym c.matches_address.ensures ∙ c.if-matches_address.true in
    let given : pair_gives (slice_index_or c.args.pairs.now (s - 1) no_pair) c.args.kind ≡ false = sym c.gives_kind.ensures ∙ c.if-gives_kind.false in
    sym (decided c.args.pairs.now c.args.a c.args.kind s c.told-pairs (omega arith) (omega arith) c.loop-slot.invariant hit
    ∙ ap (λ t. if t then Granted (s - 1) else Denied) given)

pub loop-slot-preserved : goal.loop-slot-preserved
loop-slot-preserved c =
    let s : ℕ = c.loop-slot.slot in
    let miss : matches (slice_index_or c.args.pairs.now (s - 1) no_pair) c.args.a ≡ false = sym c.matches_address.ensures ∙ c.if-matches_address.false in
    passed c.args.pairs.now c.args.a s c.told-pairs (omega arith) (omega arith) c.loop-slot.invariant miss

pub returns : goal.returns
returns c =
    sym (decision-none c.args.pairs.now c.args.a c.args.kind (λ j below. c.loop-slot.invariant j (omega arith) (omega (arith, c.told-pairs))))
