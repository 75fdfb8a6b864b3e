-- The rule when a token is made, and what it says when all passes are back.
use Rattle.std.proofs.Common.{◌≡◌, ℕ, zero, suc, ◌%◌, ◌<◌, ◌≤◌, inr, List, [], ◌∷◌, ◌++◌, map, get_or, Option, Some, None, All, sum_by, refl, ap, sym, ◌∙◌, subst, arith}
use mathlib.Core.Option.{some, some-injective, some-ne-none}
use mathlib.Core.Logic.{dite}
use native.Mathlib.Decide.{dec_lt}
use lib.ListN.{get_elem?}
use Rattle.std.proofs.lemmas.List.Elements.{All-cons, All-nil, All-head, All-tail, All-map, All-same, All-pop}
use Rattle.std.proofs.lemmas.List.Sums.{sum_by-cons}
use Rattle.atomic_table.specs.Table.{opening, Final, Seen}
use Rattle.atomic_table.specs.Seated.{TableId}
use Rattle.shared_views.specs.Views.{of_views, Every, is_at}
use Rattle.shared_views.proofs.Views.{made_once, made_outside, made_every, made_zero, of_all}
use Rattle.cpu_token.specs.declared.part.PassPart.{PassPart}
use Rattle.cpu_token.specs.Passes.{TokenValue, PassValue, pass_number, AreAll}
use Rattle.cpu_token.specs.Parts.{part_number, fresh_part, fresh_parts, shown_part, pass_value, IsIdle, IsPass}
use Rattle.cpu_token.specs.TokenRule.{is_holder, one_if_held, Agrees}
use Rattle.cpu_token.specs.Plays.{Sat}
use Rattle.cpu_token.proofs.Kept.{Rule}
use Rattle.cpu_token.proofs.Dealing.{alone_shows}

module _ {P : Type 0} where
  pub all_of : (Q : P → Type 0) (v : List P) → ((j : ℕ) (p : P) → get_elem? v j ≡ some p → Q p) → All Q v
  all_of Q [] each = All-nil Q
  all_of Q (x ∷ xs) each = All-cons Q x xs (each zero x refl) (all_of Q xs (λ j p e. each (suc j) p e))

module _ {V E F : Type 0} where
  idle_sum : (v : List (PassPart V E F)) → All IsIdle v → sum_by is_holder v ≡ 0
  idle_sum [] idle = refl
  idle_sum (x ∷ xs) idle =
      let none : is_holder x ≡ 0 = ap one_if_held (All-head IsIdle x xs idle) in
      omega (arith, sum_by-cons is_holder x xs, none, idle_sum xs (All-tail IsIdle x xs idle))

  pub shown_sum : (id : TableId) (k : ℕ) (v : List (PassPart V E F)) → sum_by (is_at pass_number k) (map (shown_part id) v) ≡ sum_by (is_at part_number k) v
  shown_sum id k [] = refl
  shown_sum id k (x ∷ xs) =
      omega (arith, sum_by-cons (is_at part_number k) x xs, sum_by-cons (is_at pass_number k) (shown_part id x) (map (shown_part id) xs), shown_sum id k xs)

module _ {V E F : Type 0} (entries : V → ℕ → List E) (fixed : V → F) (n : ℕ) (start : V) where
  pub opens : (value : V) → start ≡ value → ((k : ℕ) → entries value k ≡ []) → Rule entries fixed n start (opening (0 ∷ []) (Some value ∷ []) (fresh_parts V E n (fixed start)))
  opens value is fresh = record {
    value = value;
    one_word = refl;
    one_slot = refl;
    once = λ k h. total (is_at part_number k) ∙ made_once part_number (fresh_part V E (fixed start)) (λ _. refl) n 0 k (omega arith) (omega arith);
    none = λ k h. total (is_at part_number k) ∙ made_outside part_number (fresh_part V E (fixed start)) (λ _. refl) n 0 k (inr (omega arith));
    same = ap fixed (sym is);
    others = λ k h. fresh k;
    parts = each;
    holding = total is_holder ∙ made_zero is_holder (fresh_part V E (fixed start)) (λ _. refl) n 0;
    home = λ _. refl;
  }
    where
      total : (g : PassPart V E F → ℕ) → of_views g (fresh_parts V E n (fixed start) ∷ []) ≡ sum_by g (fresh_parts V E n (fixed start))
      total g = omega arith

      none_is : {h : ℕ} → None ≡ Some h → ⊥
      none_is e = cc

      each : Every (Agrees entries fixed value 0) (fresh_parts V E n (fixed start) ∷ [])
      each zero v j p e f = made_every (Agrees entries fixed value 0) (fresh_part V E (fixed start)) n 0
          (λ k _ _. record { same = ap fixed is; own = sym (fresh k); held = λ h none. absurd (none_is none) }) j p
          (subst (λ (w : List (PassPart V E F)). get_elem? w j ≡ some p) (sym (some-injective (fresh_parts V E n (fixed start)) v e)) f)
      each (suc i) v j p e f = absurd (some-ne-none v (sym e))

  -- the value that was at home in the end, which each part knows
  pub record Ended (v : List (PassPart V E F)) (slots : List (Option V)) : Type 0 where
    pub value : V
    pub there : get_elem? slots 0 ≡ some (Some value)
    pub same : All (λ p. fixed value ≡ p.fixed) v
    pub own : All (λ p. entries value p.number ≡ p.entries) v
    pub others : (k : ℕ) → n ≤ k → entries value k ≡ []

  pub ends : (id : ℕ) (v : List (PassPart V E F)) (words : List ℕ) (slots : List (Option V)) → Final (Seen (Rule entries fixed n start) id v) words slots
      → All IsIdle v → ((k : ℕ) → k < n → 0 < sum_by (is_at part_number k) v) → Ended v slots
  ends id v words slots final idle all =
      let s = final.0 in
      let r : Rule entries fixed n start s = final.1.0 in
      let at : get_elem? s.views id ≡ some v = final.1.1 in
      let most : (k : ℕ) → of_views (is_at part_number k) s.views ≤ sum_by (is_at part_number k) v =
      λ k. dite (dec_lt k n) (λ inside. omega (arith, r.once k inside, all k inside)) (λ outside. omega (arith, r.none k (omega arith))) in
      let sum : of_views is_holder s.views ≡ sum_by is_holder v = of_all part_number is_holder s.views id v at most in
      let free : get_or s.words 0 0 % 2 ≡ 0 = sym r.holding ∙ sum ∙ idle_sum v idle in
      record {
        value = r.value;
        there = final.4 0 (Some r.value) (r.home free);
        same = all_of (λ p. fixed r.value ≡ p.fixed) v (λ j p e. sym (r.parts id v j p at e).same);
        own = all_of (λ p. entries r.value p.number ≡ p.entries) v (λ j p e. sym (r.parts id v j p at e).own);
        others = r.others;
      }

  -- what the value that was at home says of each pass
  pub record Closes (items : List (PassValue E F)) (slots : List (Option V)) : Type 0 where
    pub value : V
    pub there : get_elem? slots 0 ≡ some (Some value)
    pub same : All (λ p. fixed value ≡ p.fixed) items
    pub own : All (λ p. entries value p.number ≡ p.entries) items
    pub others : (k : ℕ) → n ≤ k → entries value k ≡ []

  pub closes : (t : TokenValue) (id id' : TableId) (f : F) (m m' : Sat V E F) (last : PassValue E F) (items others : List (PassValue E F)) (seat : ℕ) (words : List ℕ) (slots : List (Option V)) (k : IsPass f m)
      → record { id = id; passes = n } ≡ t → AreAll t items → items ≡ others ++ last ∷ [] → pass_value id' f m.0 ≡ last → others ++ map (shown_part id) m.0 ≡ map (shown_part id) m'.0
      → (All IsIdle m.0 → All IsIdle m'.0) → Final (Seen (Rule entries fixed n start) seat m'.0) words slots → Closes items slots
  closes t id id' f m m' last items others seat words slots k t_is all items_is shows parts idle final =
      let popped = All-pop (λ p. p.token ≡ t.id) items others (Some last) items_is all.of in
      let of : id' ≡ id = ap (λ (x : PassValue E F). x.token) shows ∙ popped.1 ∙ sym (ap (λ (x : TokenValue). x.id) t_is) in
      let shown : items ≡ map (shown_part id) m'.0 = items_is ∙ ap (λ (x : List (PassValue E F)). others ++ x) (sym (alone_shows id id' f m last k shows of)) ∙ parts in
      let count : (j : ℕ) → sum_by (is_at pass_number j) items ≡ sum_by (is_at part_number j) m'.0 =
      λ j. ap (λ (x : List (PassValue E F)). sum_by (is_at pass_number j) x) shown ∙ shown_sum id j m'.0 in
      let e = ends seat m'.0 words slots final
      (idle (All-same IsIdle m.0 (k.part ∷ []) (ap (λ (x : Sat V E F). x.0) k.is) (All-cons IsIdle k.part [] k.idle (All-nil IsIdle))))
      (λ j inside. subst (λ (x : ℕ). 0 < x) (count j) (all.each j (subst (λ (x : TokenValue). j < x.passes) t_is inside))) in
      record {
        value = e.value;
        there = e.there;
        same = All-same (λ p. fixed e.value ≡ p.fixed) items (map (shown_part id) m'.0) shown (All-map (λ p. fixed e.value ≡ p.fixed) (shown_part id) m'.0 e.same);
        own = All-same (λ p. entries e.value p.number ≡ p.entries) items (map (shown_part id) m'.0) shown (All-map (λ p. entries e.value p.number ≡ p.entries) (shown_part id) m'.0 e.own);
        others = e.others;
      }
