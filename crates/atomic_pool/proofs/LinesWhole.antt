-- The rule of the lines when the word is made, when a seat is cut or joined, and at the end.
use Rattle.std.proofs.Common.{◌≡◌, ℕ, suc, ◌+◌, ◌-◌, ◌<◌, ◌≤◌, List, [], ◌∷◌, ◌++◌, length, set, get_or, All, append_assoc, length-append, take, drop, sum_by, refl, ap, sym, ◌∙◌, subst, inr, arith}
use mathlib.Core.Option.{some, some-injective, some-ne-none}
use mathlib.Core.Logic.{dite}
use native.Mathlib.Decide.{dec_le}
use lib.ListN.{get_elem?, get_or-append}
use Rattle.std.proofs.lemmas.List.{map-append}
use Rattle.std.specs.Int.{bit_at}
use Rattle.std.proofs.lemmas.Nat.Bits.{bit_at-zero}
use Rattle.atomic_table.specs.Seated.{TableId}
use Rattle.atomic_table.specs.Table.{State, Me, Splits, Joins, opening, Final, Seen}
use Rattle.shared_views.specs.Views.{of_views, is_at, made_from}
use Rattle.shared_views.proofs.Views.{split_sum, join_sum, of_all, made_once, made_outside, made_zero, made_more}
use Rattle.atomic_pool.specs.LinesRule.{LinesValue, LineSeatValue, number_of, openness, raises_of, sets_of, takes_of, LinesRule, IsLineSeat, fresh_part, fresh_seat}
use Rattle.atomic_pool.specs.LinesTold.{parts_of, AreAll, IsLeft}
use Rattle.atomic_pool.specs.declared.lines.LinePart.{LinePart}

abbrev St : Type 0
St = State Unit (List LinePart)

-- the rule sees sums alone
same_sums : (n : ℕ) (s : St) (vs : List (List LinePart)) → LinesRule n s → ((g : LinePart → ℕ) → of_views g vs ≡ of_views g s.views) → LinesRule n record { words = s.words; homes = s.homes; views = vs }
same_sums n s vs rule same = record {
  one_word = rule.one_word;
  once = λ k below. same (is_at number_of k) ∙ rule.once k below;
  no_other = λ k above. same (is_at number_of k) ∙ rule.no_other k above;
  some_open = λ pending. omega (arith, same openness, rule.some_open pending);
  balanced = λ l. omega (arith, same (sets_of l), same (takes_of l), rule.balanced l);
  heard = λ l some_raised. omega (arith, same (sets_of l), rule.heard l (omega (arith, same (raises_of l))));
}

pub splits_ok : (n id : ℕ) (v : List LinePart) (p : LinePart) (ps : List LinePart) → v ≡ p ∷ ps → Splits (LinesRule n) id v (drop 1 v) (take 1 v)
splits_ok n id v p ps is = subst (λ x. Splits (LinesRule n) id x (drop 1 x) (take 1 x)) (sym is)
    (λ s rule at. same_sums n s (set s.views id ps ++ (p ∷ []) ∷ []) rule (λ g. split_sum g s.views id p ps at))

pub joins_ok : (n id : ℕ) (v : List LinePart) (other : ℕ) (w : List LinePart) → Joins (LinesRule n) id v other w (w ++ v) []
joins_ok n id v other w s rule at apart there =
    same_sums n s (set (set s.views id (w ++ v)) other []) rule (λ g. join_sum g s.views id other v w at there)

-- the part k comes first, where n parts are made and k were given out
pub next_part : (n k : ℕ) → k < n → made_from fresh_part k (n - k) ≡ fresh_part k ∷ made_from fresh_part (k + 1) (n - (k + 1))
next_part n k below =
    let count : n - k ≡ suc (n - (k + 1)) = omega arith in
    let up : suc k ≡ k + 1 = omega arith in
    ap (made_from fresh_part k) count ∙ ap (λ j. fresh_part k ∷ made_from fresh_part j (n - (k + 1))) up

-- a seat with the first part of a view
pub first_alone : (k : ℕ) (me : Me Unit (List LinePart)) (v ps : List LinePart) → me ≡ (take 1 v, []) → v ≡ fresh_part k ∷ ps → me ≡ (fresh_part k ∷ [], [])
first_alone k me v ps e is = e ∙ ap (λ x. (take 1 x, [])) is

pub first_seat : (k : ℕ) (me : Me Unit (List LinePart)) (v ps : List LinePart) → me ≡ (take 1 v, []) → v ≡ fresh_part k ∷ ps → IsLineSeat k me
first_seat k me v ps e is = subst (IsLineSeat k) (sym (first_alone k me v ps e is)) record { is = refl; named = refl }

-- one more seat of a new word
pub seat_pushed : (id : TableId) (k : ℕ) (new : LineSeatValue) (seats : List LineSeatValue) → new.lines ≡ id → new.part ≡ fresh_part k → seats ≡ made_from (fresh_seat id) 0 k
    → seats ++ new ∷ [] ≡ made_from (fresh_seat id) 0 (k + 1)
seat_pushed id k new seats of is before =
    let same : new ≡ fresh_seat id k = λ i. record { lines = of i; part = is i } in
    let up : suc k ≡ k + 1 = omega arith in
    let here : k ≡ 0 + k = omega arith in
    ap (λ x. x ++ new ∷ []) before
    ∙ (ap (λ x. made_from (fresh_seat id) 0 k ++ x ∷ []) (same ∙ ap (fresh_seat id) here)
    ∙ (sym (made_more (fresh_seat id) k 0) ∙ ap (made_from (fresh_seat id) 0) up))

all_front : {A : Type 0} (P : A → Type 0) (xs ys zs : List A) → zs ≡ xs ++ ys → All P zs → All P xs
all_front {A} P xs ys zs e all k d below =
    subst P (ap (λ (l : List A). get_or l k d) e ∙ get_or-append xs ys d k below) (all k d (omega (arith, ap length e, length-append xs ys)))

all_last : {A : Type 0} (P : A → Type 0) (xs : List A) (y : A) (zs : List A) → zs ≡ xs ++ y ∷ [] → All P zs → P y
all_last {A} P xs y zs e all =
    subst P (ap (λ (l : List A). get_or l (length xs) y) e ∙ get_or-push xs y) (all (length xs) y (omega (arith, ap length e, length-append xs (y ∷ []))))
  where
    get_or-push : (xs : List A) (y : A) → get_or (xs ++ y ∷ []) (length xs) y ≡ y
    get_or-push [] y = refl
    get_or-push (x ∷ xs) y = get_or-push xs y

-- the seats before the last, and the last, are of the same word
pub of_front : (z : TableId) (xs ys zs : List LineSeatValue) → zs ≡ xs ++ ys → All (λ s. s.lines ≡ z) zs → All (λ s. s.lines ≡ z) xs
of_front z xs ys zs = all_front (λ (s : LineSeatValue). s.lines ≡ z) xs ys zs

pub of_last : (z : TableId) (xs : List LineSeatValue) (y : LineSeatValue) (zs : List LineSeatValue) → zs ≡ xs ++ y ∷ [] → All (λ s. s.lines ≡ z) zs → y.lines ≡ z
of_last z xs y zs = all_last (λ (s : LineSeatValue). s.lines ≡ z) xs y zs

-- no seat is left to join
pub none_joined : (zs : List LineSeatValue) (v u : List LinePart) → length zs ≡ 0 → parts_of zs ++ v ≡ u → u ≡ v
none_joined [] v u none e = sym e
none_joined (x ∷ xs) v u none e = absurd (omega arith)

-- the parts that one seat has when the last of the others is joined to it
pub one_joined : (zs xs : List LineSeatValue) (s : LineSeatValue) (v w u me : List LinePart) → zs ≡ xs ++ s ∷ [] → parts_of zs ++ v ≡ u → w ≡ s.part ∷ [] → me ≡ w ++ v → parts_of xs ++ me ≡ u
one_joined zs xs s v w u me e before is now =
    ap (λ x. parts_of xs ++ x) (now ∙ ap (λ x. x ++ v) is)
    ∙ (sym (append_assoc (parts_of xs) (s.part ∷ []) v)
    ∙ (ap (λ x. x ++ v) (sym (map-append (λ (t : LineSeatValue). t.part) xs (s ∷ [])) ∙ ap parts_of (sym e)) ∙ before))

pub opens : (n : ℕ) → LinesRule n (opening (0 ∷ []) [] (made_from fresh_part 0 n))
opens n = record {
  one_word = refl;
  once = λ k below. omega (arith, made_once number_of fresh_part (λ j. refl) n 0 k (omega arith) (omega arith));
  no_other = λ k above. omega (arith, made_outside number_of fresh_part (λ j. refl) n 0 k (inr (omega arith)));
  some_open = λ pending. absurd (pending refl);
  balanced = λ l. omega (arith, made_zero (sets_of l) fresh_part (λ k. refl) n 0, made_zero (takes_of l) fresh_part (λ k. refl) n 0, bit_at-zero l);
  heard = λ l some_raised. absurd (omega (arith, made_zero (raises_of l) fresh_part (λ k. refl) n 0));
}

head_is : (words ws : List ℕ) (word : ℕ) → words ≡ ws → get_elem? ws 0 ≡ some word → get_or words 0 0 ≡ word
head_is words [] word e at = absurd (some-ne-none word (sym at))
head_is words (x ∷ xs) word e at = ap (λ l. get_or l 0 0) e ∙ some-injective x word at

-- what is left where one seat has all parts
pub leaves : (n : ℕ) (lines : LinesValue) (id : ℕ) (seats : List LineSeatValue) (v : List LinePart) (ws : List ℕ) (xs : List Unit) (word : ℕ)
    → n ≡ lines.count → Final (Seen (LinesRule n) id v) ws xs → get_elem? ws 0 ≡ some word → AreAll lines seats → parts_of seats ≡ v → IsLeft word seats
leaves n lines id seats v ws xs word counts final at all is = record {
  some_open = λ pending. omega (arith, whole openness, rule.some_open (λ e. pending (sym word_is ∙ e)));
  balanced = λ l. omega (arith, whole (sets_of l), whole (takes_of l), rule.balanced l, ap (λ w. bit_at w l) word_is);
  heard = λ l some_raised. omega (arith, whole (sets_of l), rule.heard l (omega (arith, whole (raises_of l))));
}
  where
    s : St
    s = final.0

    rule : LinesRule n s
    rule = final.1.0

    word_is : get_or s.words 0 0 ≡ word
    word_is = head_is s.words ws word final.2 at

    each : (k : ℕ) → of_views (is_at number_of k) s.views ≤ sum_by (is_at number_of k) v
    each k = dite (dec_le n k)
        (λ above. omega (arith, rule.no_other k above))
        (λ below. omega (arith, rule.once k (omega arith), ap (sum_by (is_at number_of k)) is, all.all k (omega arith)))

    whole : (g : LinePart → ℕ) → of_views g s.views ≡ sum_by g (parts_of seats)
    whole g = of_all number_of g s.views id v final.1.1 each ∙ ap (sum_by g) (sym is)
