-- The rule of an inbox when it is made, and when a seat is cut or joined.
use Rattle.std.proofs.Common.{◌≡◌, ℕ, zero, suc, ◌+◌, ◌-◌, ◌^◌, ◌<◌, ◌≤◌, List, [], ◌∷◌, ◌++◌, length, get_or, set, take, drop, refl, ap, sym, ◌∙◌, subst, inr, arith}
use mathlib.Core.Option.{some, some-injective, some-ne-none}
use lib.ListN.{get_elem?}
use Rattle.std.specs.Int.{bit_at}
use Rattle.std.proofs.lemmas.Nat.Bits.{bit_at_ones, bit_at_ones_above}
use Rattle.atomic_table.specs.Seated.{TableId}
use Rattle.atomic_table.specs.Table.{Me, Splits, Joins, opening}
use Rattle.shared_views.specs.Views.{of_views, Every, is_at, made_from}
use Rattle.shared_views.proofs.Views.{split_sum, split_every, join_sum, join_every, made_once, made_outside, made_zero, made_every, made_more}
use Rattle.atomic_pool.specs.InboxRule.{number_of, holds_of, Agrees, InboxRule}
use Rattle.atomic_pool.specs.InboxParts.{fresh_part}
use Rattle.atomic_pool.specs.InboxSeats.{SeatValue, IsProducer, fresh_seat}
use Rattle.atomic_pool.specs.declared.inbox.InboxPart.{InboxPart}
use Rattle.atomic_pool.proofs.Agreeing.{none_is_not}
use Rattle.atomic_pool.proofs.InboxTurned.{St}

-- the rule sees sums over the views, and a fact on each part
same_parts : (n m : ℕ) (s : St) (vs : List (List InboxPart)) → InboxRule n m s → ((g : InboxPart → ℕ) → of_views g vs ≡ of_views g s.views)
    → ((F : InboxPart → Type 0) → Every F s.views → Every F vs) → InboxRule n m record { words = s.words; homes = s.homes; views = vs }
same_parts n m s vs rule same every = record {
  few = rule.few;
  small = rule.small;
  wide = rule.wide;
  once = λ k below. same (is_at number_of k) ∙ rule.once k below;
  no_other = λ k above. same (is_at number_of k) ∙ rule.no_other k above;
  queue = rule.queue;
  queued = rule.queued;
  partition = λ i below. omega (arith, same (holds_of i), rule.partition i below);
  outside = λ i above. omega (arith, same (holds_of i), rule.outside i above);
  took = rule.took;
  known = rule.known;
  parts = every (Agrees n m s.words rule.queue rule.took) rule.parts;
}

pub splits_ok : (n m id : ℕ) (v : List InboxPart) (p : InboxPart) (ps : List InboxPart) → v ≡ p ∷ ps → Splits (InboxRule n m) id v (drop 1 v) (take 1 v)
splits_ok n m id v p ps is = subst (λ x. Splits (InboxRule n m) id x (drop 1 x) (take 1 x)) (sym is)
    (λ s rule at. same_parts n m s (set s.views id ps ++ (p ∷ []) ∷ []) rule (λ g. split_sum g s.views id p ps at) (λ F every. split_every F s.views id p ps at every))

pub joins_ok : (n m id : ℕ) (v : List InboxPart) (other : ℕ) (w : List InboxPart) → Joins (InboxRule n m) id v other w (w ++ v) []
joins_ok n m id v other w s rule at apart there =
    same_parts n m s (set (set s.views id (w ++ v)) other []) rule (λ g. join_sum g s.views id other v w at there) (λ F every. join_every F s.views id other v w apart at there every)

pub opens : (n m : ℕ) (words : List ℕ) → n ≤ 256 → m ≤ 15 → length words ≡ 2 + m → get_or words 0 0 ≡ 2 ^ m - 1 → get_or words 1 0 ≡ 0
    → InboxRule n m (opening words [] (made_from (fresh_part n m) 0 (suc n)))
opens n m words few small wide free empty = record {
  few = few;
  small = small;
  wide = wide;
  once = λ k below. omega (arith, made_once number_of (fresh_part n m) (λ j. refl) (suc n) 0 k (omega arith) (omega arith));
  no_other = λ k above. omega (arith, made_outside number_of (fresh_part n m) (λ j. refl) (suc n) 0 k (inr (omega arith)));
  queue = [];
  queued = empty;
  partition = λ i below. omega (arith, ap (λ w. bit_at w i) free, bit_at_ones m i below, made_zero (holds_of i) (fresh_part n m) (λ k. refl) (suc n) 0);
  outside = λ i above. omega (arith, ap (λ w. bit_at w i) free, bit_at_ones_above m i above, made_zero (holds_of i) (fresh_part n m) (λ k. refl) (suc n) 0);
  took = [];
  known = λ k d below. absurd (omega arith);
  parts = parts;
}
  where
    each : (k : ℕ) → Agrees n m words [] [] (fresh_part n m k)
    each k = record {
      producers = refl;
      slots = refl;
      put = λ below. refl;
      taken = λ e. refl;
      last = λ i c e. none_is_not (i, c) e;
      head = λ i e. none_is_not i e;
      peeked = λ c e. none_is_not c e;
    }

    parts : Every (Agrees n m words [] []) (made_from (fresh_part n m) 0 (suc n) ∷ [])
    parts zero v j p e f = made_every (Agrees n m words [] []) (fresh_part n m) (suc n) 0 (λ k low high. each k) j p
        (subst (λ (x : List InboxPart). get_elem? x j ≡ some p) (sym (some-injective (made_from (fresh_part n m) 0 (suc n)) v e)) f)
    parts (suc i) v j p e f = absurd (some-ne-none v (sym e))

-- the part k comes first, where n + 1 parts are made and k were given out
pub next_part : (n m k : ℕ) → k < n → made_from (fresh_part n m) k (suc n - k) ≡ fresh_part n m k ∷ made_from (fresh_part n m) (k + 1) (suc n - (k + 1))
next_part n m k below =
    let count : suc n - k ≡ suc (suc n - (k + 1)) = omega arith in
    let up : suc k ≡ k + 1 = omega arith in
    ap (made_from (fresh_part n m) k) count ∙ ap (λ j. fresh_part n m k ∷ made_from (fresh_part n m) j (suc n - (k + 1))) up

-- the last of them is the consumer's
pub last_part : (n m : ℕ) → made_from (fresh_part n m) n (suc n - n) ≡ fresh_part n m n ∷ []
last_part n m =
    let one : suc n - n ≡ 1 = omega arith in
    ap (made_from (fresh_part n m) n) one

pub first_alone : (n m k : ℕ) (me : Me Unit (List InboxPart)) (v ps : List InboxPart) → me ≡ (take 1 v, []) → v ≡ fresh_part n m k ∷ ps → me ≡ (fresh_part n m k ∷ [], [])
first_alone n m k me v ps e is = e ∙ ap (λ x. (take 1 x, [])) is

pub first_seat : (n m k : ℕ) (id : TableId) (me : Me Unit (List InboxPart)) → k < n → id.words ≡ 2 + m → me ≡ (fresh_part n m k ∷ [], []) → IsProducer id k 0 me
first_seat n m k id me below wide is = subst (IsProducer id k 0) (sym is) record { is = refl; named = refl; produces = below; count = refl; wide = wide }

-- one more producer of a new inbox
pub seat_pushed : (id : TableId) (n m k : ℕ) (new : SeatValue) (seats : List SeatValue) → new.inbox ≡ id → new.part ≡ fresh_part n m k → seats ≡ made_from (fresh_seat id n m) 0 k
    → seats ++ new ∷ [] ≡ made_from (fresh_seat id n m) 0 (k + 1)
seat_pushed id n m k new seats of is before =
    let same : new ≡ fresh_seat id n m k = λ i. record { inbox = of i; part = is i } in
    let up : suc k ≡ k + 1 = omega arith in
    let here : k ≡ 0 + k = omega arith in
    ap (λ x. x ++ new ∷ []) before
    ∙ (ap (λ x. made_from (fresh_seat id n m) 0 k ++ x ∷ []) (same ∙ ap (fresh_seat id n m) here)
    ∙ (sym (made_more (fresh_seat id n m) k 0) ∙ ap (made_from (fresh_seat id n m) 0) up))
