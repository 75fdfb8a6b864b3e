-- Each step keeps the rule of the lines.
use Rattle.std.proofs.Common.{◌≡◌, ◌≢◌, ℕ, ◌+◌, ◌^◌, ◌<◌, ◌≤◌, ◌⊎◌, inl, inr, ⊎_elim, Bool, false, cond, ◌==◌, List, [], ◌∷◌, ◌++◌, map, filter, set, get_or, append-nil, refl, ap, sym, ◌∙◌, subst, arith, bit_and, bit_or, w64, eq-eqb, ne_eqb, length-set}
use mathlib.Core.Option.{some, none}
use mathlib.Core.Logic.{dite}
use native.Mathlib.Decide.{ℕ_discrete}
use lib.ListN.{get_elem?}
use Rattle.std.specs.Int.{bit_at, bit_not}
use Rattle.std.proofs.lemmas.List.{get_or-set_same, map-append}
use Rattle.std.proofs.lemmas.List.Elements.{filter-append}
use Rattle.std.proofs.lemmas.Nat.Bits.{bit_at_set_same, bit_at_set_other, bit_at-lt}
use Rattle.std.specs.Int.Bits.{and_zero_l}
use Rattle.atomic_table.specs.Table.{State, Me, step, keeps, Allows}
use Rattle.shared_views.proofs.Views.{within, swapped, counted}
use Rattle.atomic_pool.specs.Bits.{mask}
use Rattle.atomic_pool.specs.Times.{times}
use Rattle.atomic_pool.specs.LinesRule.{number_of, raised, newly_set, openness, raises_of, sets_of, takes_of, LinesRule, looked_part, raised_part, took_part, missed_part, only_part}
use Rattle.atomic_pool.specs.LinesPlays.{Becomes, looks, raises, takes}
use Rattle.atomic_pool.specs.declared.lines.LinePart.{LinePart}
use Rattle.atomic_pool.proofs.Counts.{times-same, times-other, times-grows}
use Rattle.atomic_pool.proofs.Masks.{mask_same, not_mask_same, bit_cleared, bit_kept, cleared_again}

abbrev St : Type 0
St = State Unit (List LinePart)

-- what a step does to its seat's part and to the word
record Turns (p q : LinePart) (old new : ℕ) : Type 0 where
  number : q.number ≡ p.number
  opened : new ≢ 0 → (openness q ≡ 1) ⊎ ((old ≢ 0) × (openness q ≡ openness p))
  balanced : (l : ℕ) → sets_of l q + takes_of l p + bit_at old l ≡ sets_of l p + takes_of l q + bit_at new l
  heard : (l : ℕ) → (raises_of l q ≡ raises_of l p) ⊎ (bit_at new l ≡ 1)
  more : (l : ℕ) → sets_of l p ≤ sets_of l q

abbrev after : St → ℕ → ℕ → LinePart → St
after s id new q = record { words = set s.words 0 new; homes = s.homes; views = set s.views id (q ∷ []) }

turned : (n : ℕ) (s : St) (id : ℕ) (p q : LinePart) (new : ℕ) → LinesRule n s → get_elem? s.views id ≡ some (p ∷ []) → Turns p q (get_or s.words 0 0) new → LinesRule n (after s id new q)
turned n s id p q new rule at t =
    let now : get_or (set s.words 0 new) 0 0 ≡ new = get_or-set_same s.words 0 new 0 (omega (arith, rule.one_word)) in record {
      one_word = length-set s.words 0 new ∙ rule.one_word;
      once = λ k below. counted number_of k s.views id p q at t.number ∙ rule.once k below;
      no_other = λ k above. counted number_of k s.views id p q at t.number ∙ rule.no_other k above;
      some_open = λ pending. ⊎_elim
          (λ (yes : openness q ≡ 1). omega (arith, swapped openness s.views id p q at, within openness s.views id (p ∷ []) at, yes))
          (λ (same : (get_or s.words 0 0 ≢ 0) × (openness q ≡ openness p)). omega (arith, swapped openness s.views id p q at, same.1, rule.some_open same.0))
          (t.opened (λ e. pending (now ∙ e)));
      balanced = λ l. omega (arith, swapped (sets_of l) s.views id p q at, swapped (takes_of l) s.views id p q at, rule.balanced l, t.balanced l, ap (λ w. bit_at w l) now);
      heard = λ l some_raised. ⊎_elim
          (λ (same : raises_of l q ≡ raises_of l p). omega (arith, swapped (raises_of l) s.views id p q at, swapped (sets_of l) s.views id p q at, rule.heard l, t.more l))
          (λ (set_now : bit_at new l ≡ 1). omega (arith, swapped (sets_of l) s.views id p q at, swapped (takes_of l) s.views id p q at, within (takes_of l) s.views id (p ∷ []) at, rule.balanced l, t.balanced l, set_now))
          (t.heard l);
    }

raised-more : (p : LinePart) (l w : ℕ) → raised (raised_part l w p) ≡ raised p ++ l ∷ []
raised-more p l w = map-append (λ (r : ℕ × ℕ). r.0) p.raises ((l, w) ∷ [])

abbrev fresh : ℕ × ℕ → Bool
fresh r = bit_at r.1 r.0 == 0

newly_set-kept : (p : LinePart) (l w : ℕ) → newly_set (raised_part l w p) ≡ newly_set p ++ map (λ (r : ℕ × ℕ). r.0) (filter fresh ((l, w) ∷ []))
newly_set-kept p l w =
    ap (map (λ (r : ℕ × ℕ). r.0)) (filter-append fresh p.raises ((l, w) ∷ []))
    ∙ map-append (λ (r : ℕ × ℕ). r.0) (filter fresh p.raises) (filter fresh ((l, w) ∷ []))

newly_set-more : (p : LinePart) (l w : ℕ) → bit_at w l ≡ 0 → newly_set (raised_part l w p) ≡ newly_set p ++ l ∷ []
newly_set-more p l w clear = newly_set-kept p l w ∙ ap (λ (b : Bool). newly_set p ++ map (λ (r : ℕ × ℕ). r.0) (cond b ((l, w) ∷ []) [])) (eq-eqb (bit_at w l) 0 clear)

newly_set-same : (p : LinePart) (l w : ℕ) → bit_at w l ≢ 0 → newly_set (raised_part l w p) ≡ newly_set p
newly_set-same p l w there = newly_set-kept p l w
    ∙ (ap (λ (b : Bool). newly_set p ++ map (λ (r : ℕ × ℕ). r.0) (cond b ((l, w) ∷ []) [])) (ne_eqb (bit_at w l) 0 there) ∙ append-nil (newly_set p))

module _ (n slots id : ℕ) (p : LinePart) where
  look_kept : Allows (LinesRule n) slots id (p ∷ [], []) 0 (λ w. w) (looks (step slots 0 0 0 none) (p ∷ [], []))
  look_kept s rule deep at small =
      let w : ℕ = get_or s.words 0 0 in
      (looked_part w p ∷ [], keeps, tt, turned n s id p (looked_part w p) w rule at (look_turns w), refl)
    where
      look_turns : (w : ℕ) → Turns p (looked_part w p) w w
      look_turns w = record {
        number = refl;
        opened = λ some. inr (some, ap (λ b. cond {A = ℕ} (cond b false p.is_open) 1 0) (ne_eqb w 0 some));
        balanced = λ l. refl;
        heard = λ l. inl refl;
        more = λ l. omega arith;
      }

  raise_turns : (line w : ℕ) → line < 64 → Turns p (raised_part line w p) w (bit_or w (mask line))
  raise_turns line w within = record {
    number = refl;
    opened = λ some. inl refl;
    balanced = balanced;
    heard = λ l. dite (ℕ_discrete l line)
        (λ here. inr (ap (bit_at (bit_or w (mask line))) here ∙ bit_at_set_same w64 w line within))
        (λ other. inl (ap (times l) (raised-more p line w) ∙ times-other l line (raised p) other));
    more = λ l. dite (ℕ_discrete (bit_at w line) 0)
        (λ clear. omega (arith, ap (times l) (newly_set-more p line w clear), times-grows l line (newly_set p)))
        (λ there. omega (arith, ap (times l) (newly_set-same p line w there)));
  }
    where
      set_now : bit_at (bit_or w (mask line)) line ≡ 1
      set_now = bit_at_set_same w64 w line within

      at_line : sets_of line (raised_part line w p) + takes_of line p + bit_at w line ≡ sets_of line p + takes_of line (raised_part line w p) + bit_at (bit_or w (mask line)) line
      at_line = dite (ℕ_discrete (bit_at w line) 0)
          (λ clear. omega (arith, ap (times line) (newly_set-more p line w clear), times-same line (newly_set p), set_now, clear))
          (λ there. omega (arith, ap (times line) (newly_set-same p line w there), bit_at-lt w line, set_now))

      elsewhere : (l : ℕ) → l ≢ line → sets_of l (raised_part line w p) + takes_of l p + bit_at w l ≡ sets_of l p + takes_of l (raised_part line w p) + bit_at (bit_or w (mask line)) l
      elsewhere l other = dite (ℕ_discrete (bit_at w line) 0)
          (λ clear. omega (arith, ap (times l) (newly_set-more p line w clear), times-other l line (newly_set p) other, bit_at_set_other w64 w line within l other))
          (λ there. omega (arith, ap (times l) (newly_set-same p line w there), bit_at_set_other w64 w line within l other))

      balanced : (l : ℕ) → sets_of l (raised_part line w p) + takes_of l p + bit_at w l ≡ sets_of l p + takes_of l (raised_part line w p) + bit_at (bit_or w (mask line)) l
      balanced l = dite (ℕ_discrete l line)
          (λ here. subst (λ k. sets_of k (raised_part line w p) + takes_of k p + bit_at w k ≡ sets_of k p + takes_of k (raised_part line w p) + bit_at (bit_or w (mask line)) k) (sym here) at_line)
          (λ other. elsewhere l other)

  raise_kept : (line k : ℕ) → line < 64 → k ≡ mask line → Allows (LinesRule n) slots id (p ∷ [], []) 0 (λ w. bit_or w k) (raises (step slots 0 k 0 none) (p ∷ [], []))
  raise_kept line k within is s rule deep at small =
      let w : ℕ = get_or s.words 0 0 in (
        raised_part line w p ∷ [],
        keeps,
        tt,
        subst (λ x. LinesRule n (after s id (bit_or w x) (raised_part line w p))) (sym is) (turned n s id p (raised_part line w p) (bit_or w (mask line)) rule at (raise_turns line w within)),
        λ l l_in e. ap (λ x. (raised_part x w p ∷ [], [])) (sym (mask_same line l within l_in (sym is ∙ e))),
      )

  abbrev rest : ℕ → ℕ
  rest line = bit_not w64 (mask line)

  took_turns : (line w : ℕ) → line < 64 → w < 2 ^ 64 → bit_at w line ≡ 1 → Turns p (took_part line w p) w (bit_and w (rest line))
  took_turns line w within small there = record {
    number = refl;
    opened = λ some. inr ((λ none_left. some (ap (λ x. bit_and x (rest line)) none_left ∙ and_zero_l (rest line))), refl);
    balanced = λ l. dite (ℕ_discrete l line)
        (λ here. subst (λ k. sets_of k p + takes_of k p + bit_at w k ≡ sets_of k p + takes_of k (took_part line w p) + bit_at (bit_and w (rest line)) k) (sym here)
        (omega (arith, times-same line p.taken, there, bit_cleared w line within)))
        (λ other. omega (arith, times-other l line p.taken other, bit_kept w line l small within other));
    heard = λ l. inl refl;
    more = λ l. omega arith;
  }

  missed_turns : (line w : ℕ) → line < 64 → w < 2 ^ 64 → bit_at w line ≡ 0 → Turns p (missed_part w p) w (bit_and w (rest line))
  missed_turns line w within small gone = record {
    number = refl;
    opened = λ some. inr ((λ none_left. some (ap (λ x. bit_and x (rest line)) none_left ∙ and_zero_l (rest line))), refl);
    balanced = λ l. ap (λ x. sets_of l p + takes_of l p + bit_at x l) (sym (cleared_again w line small within gone));
    heard = λ l. inl refl;
    more = λ l. omega arith;
  }

  take_kept : (line k : ℕ) → line < 64 → k ≡ rest line → Allows (LinesRule n) slots id (p ∷ [], []) 0 (λ w. bit_and w k) (takes (step slots 0 k 0 none) (p ∷ [], []))
  take_kept line k within is s rule deep at small = dite (ℕ_discrete (bit_at w line) 0)
      (λ gone. (
        missed_part w p ∷ [],
        keeps,
        tt,
        moved (missed_part w p) (missed_turns line w within small gone),
        λ l l_in e. let same : l ≡ line = not_mask_same line l within l_in (sym is ∙ e) in
            ((λ one. absurd (omega (arith, ap (bit_at w) same))), (λ _. refl)),
      ))
      (λ some. let there : bit_at w line ≡ 1 = omega (arith, bit_at-lt w line) in (
        took_part line w p ∷ [],
        keeps,
        tt,
        moved (took_part line w p) (took_turns line w within small there),
        λ l l_in e. let same : l ≡ line = not_mask_same line l within l_in (sym is ∙ e) in
            ((λ one. ap (λ x. (took_part x w p ∷ [], [])) (sym same)), (λ none_there. absurd (omega (arith, ap (bit_at w) same)))),
      ))
    where
      w : ℕ
      w = get_or s.words 0 0

      moved : (q : LinePart) → Turns p q w (bit_and w (rest line)) → LinesRule n (after s id (bit_and w k) q)
      moved q t = subst (λ x. LinesRule n (after s id (bit_and w x) q)) (sym is) (turned n s id p q (bit_and w (rest line)) rule at t)

-- the same for a seat that has one part and holds nothing
module _ (n slots id : ℕ) (m : Me Unit (List LinePart)) (is : m ≡ (only_part m.0 ∷ [], [])) where
  pub looks_ok : Allows (LinesRule n) slots id m 0 (λ w. w) (looks (step slots 0 0 0 none) m)
  looks_ok = subst (λ x. Allows (LinesRule n) slots id x 0 (λ w. w) (looks (step slots 0 0 0 none) x)) (sym is) (look_kept n slots id (only_part m.0))

  pub raises_ok : (line k : ℕ) → line < 64 → k ≡ mask line → Allows (LinesRule n) slots id m 0 (λ w. bit_or w k) (raises (step slots 0 k 0 none) m)
  raises_ok line k within e = subst (λ x. Allows (LinesRule n) slots id x 0 (λ w. bit_or w k) (raises (step slots 0 k 0 none) x)) (sym is) (raise_kept n slots id (only_part m.0) line k within e)

  pub takes_ok : (line k : ℕ) → line < 64 → k ≡ bit_not w64 (mask line) → Allows (LinesRule n) slots id m 0 (λ w. bit_and w k) (takes (step slots 0 k 0 none) m)
  takes_ok line k within e = subst (λ x. Allows (LinesRule n) slots id x 0 (λ w. bit_and w k) (takes (step slots 0 k 0 none) x)) (sym is) (take_kept n slots id (only_part m.0) line k within e)

abbrev Sat : Type 0
Sat = Me Unit (List LinePart)

-- the part of a seat after a step
pub part_after : (f : LinePart → LinePart) (m m' : Sat) → m ≡ (only_part m.0 ∷ [], []) → Becomes f m m' → only_part m'.0 ≡ f (only_part m.0)
part_after f m m' is e = ap (λ (x : Sat). only_part x.0) e ∙ ap (λ (x : Sat). only_part (map f x.0)) is

-- it is still the only one
pub alone_after : (f : LinePart → LinePart) (m m' : Sat) → m ≡ (only_part m.0 ∷ [], []) → Becomes f m m' → m' ≡ (only_part m'.0 ∷ [], [])
alone_after f m m' is e =
    let now : m' ≡ (f (only_part m.0) ∷ [], []) = e ∙ ap (λ (x : Sat). (map f x.0, x.1)) is in
    now ∙ ap (λ (p : LinePart). (p ∷ [], [])) (sym (part_after f m m' is e))
