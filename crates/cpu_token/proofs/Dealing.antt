-- What the cuts and joins of seats keep.
use Rattle.std.proofs.Common.{◌≡◌, ℕ, zero, suc, ◌+◌, ◌<◌, ◌≤◌, List, [], ◌∷◌, ◌++◌, map, All, refl, ap, sym, ◌∙◌, subst, arith, append_assoc}
use Rattle.std.proofs.lemmas.List.Elements.{All-same, All-cons}
use Rattle.atomic_table.specs.Table.{Splits, Joins}
use Rattle.atomic_table.specs.Seated.{TableId}
use Rattle.shared_views.specs.Views.{is_at, made_from}
use Rattle.shared_views.proofs.Views.{split_sum, split_every, join_sum, join_every}
use Rattle.cpu_token.specs.declared.part.PassPart.{PassPart}
use Rattle.cpu_token.specs.Passes.{PassValue, fresh_pass}
use Rattle.cpu_token.specs.Parts.{part_number, fresh_part, first_part, other_parts, shown_part, pass_value, IsIdle, IsPass}
use Rattle.cpu_token.specs.TokenRule.{is_holder}
use Rattle.cpu_token.specs.Plays.{Sat}
use Rattle.cpu_token.proofs.Kept.{Rule}

module _ {V E F : Type 0} (entries : V → ℕ → List E) (fixed : V → F) (n : ℕ) (start : V) where
  pub cuts : (id : ℕ) (p : PassPart V E F) (ps : List (PassPart V E F)) → Splits (Rule entries fixed n start) id (p ∷ ps) ps (p ∷ [])
  cuts id p ps s r at = record {
    value = r.value;
    one_word = r.one_word;
    one_slot = r.one_slot;
    once = λ k h. split_sum (is_at part_number k) s.views id p ps at ∙ r.once k h;
    none = λ k h. split_sum (is_at part_number k) s.views id p ps at ∙ r.none k h;
    same = r.same;
    others = r.others;
    parts = split_every _ s.views id p ps at r.parts;
    holding = split_sum is_holder s.views id p ps at ∙ r.holding;
    home = r.home;
  }

  pub cuts_at : (id : ℕ) (v : List (PassPart V E F)) (p : PassPart V E F) (ps : List (PassPart V E F)) → v ≡ p ∷ ps → Splits (Rule entries fixed n start) id v (other_parts v) (first_part v)
  cuts_at id v p ps is = subst (λ (x : List (PassPart V E F)). Splits (Rule entries fixed n start) id x (other_parts x) (first_part x)) (sym is) (cuts id p ps)

  pub joins : (id : ℕ) (v : List (PassPart V E F)) (other : ℕ) (w : List (PassPart V E F)) → Joins (Rule entries fixed n start) id v other w (w ++ v) []
  joins id v other w s r at apart there = record {
    value = r.value;
    one_word = r.one_word;
    one_slot = r.one_slot;
    once = λ k h. join_sum (is_at part_number k) s.views id other v w at there ∙ r.once k h;
    none = λ k h. join_sum (is_at part_number k) s.views id other v w at there ∙ r.none k h;
    same = r.same;
    others = r.others;
    parts = join_every _ s.views id other v w apart at there r.parts;
    holding = join_sum is_holder s.views id other v w at there ∙ r.holding;
    home = r.home;
  }

module _ {V E F : Type 0} where
  -- while the parts are dealt: so many passes have theirs, and the seat has the others
  pub record Dealt (id : TableId) (f : F) (n counter : ℕ) (m : Sat V E F) (items : List (PassValue E F)) : Type 0 where
    pub dealt : ℕ
    pub left : ℕ
    pub count : dealt + 1 ≡ counter
    pub all : dealt + suc left ≡ n
    pub parts : m ≡ (made_from (fresh_part V E f) dealt (suc left), [])
    pub passes : items ++ made_from (fresh_pass E id f) dealt (suc left) ≡ made_from (fresh_pass E id f) 0 n

  pub dealt_part : (f g : F) (k : ℕ) (m : Sat V E F) → g ≡ f → m ≡ (fresh_part V E f k ∷ [], []) → IsPass g m
  dealt_part f g k m same is = record { part = fresh_part V E f k; is = is; idle = refl; same = sym same }

  pub dealt_shows : (id id' : TableId) (f g : F) (k : ℕ) (m : Sat V E F) → id' ≡ id → g ≡ f → m ≡ (fresh_part V E f k ∷ [], []) → pass_value id' g m.0 ≡ fresh_pass E id f k
  dealt_shows id id' f g k m of same is = ap (λ (x : TableId). pass_value x g m.0) of ∙ ap (λ (x : F). pass_value id x m.0) same ∙ ap (λ (x : Sat V E F). pass_value id f x.0) is

  -- the next part of the seat, and the others
  pub next_part : {id : TableId} {f : F} {n counter : ℕ} {m : Sat V E F} {items : List (PassValue E F)} (d : Dealt id f n counter m items)
      → m.0 ≡ fresh_part V E f d.dealt ∷ made_from (fresh_part V E f) (suc d.dealt) d.left
  next_part d = ap (λ (x : Sat V E F). x.0) d.parts

  pub first_is : {id : TableId} {f : F} {n counter : ℕ} {m : Sat V E F} {items : List (PassValue E F)} (d : Dealt id f n counter m items) (m' : Sat V E F)
      → m' ≡ (first_part m.0, []) → m' ≡ (fresh_part V E f d.dealt ∷ [], [])
  first_is d m' is = is ∙ ap (λ (x : List (PassPart V E F)). (first_part x, [])) (next_part d)

  more : (id : TableId) (f : F) (n counter k j : ℕ) (m m' : Sat V E F) (items items' : List (PassValue E F)) → k + 1 ≡ counter → k + suc j ≡ n
      → m ≡ (made_from (fresh_part V E f) k (suc j), []) → items ++ made_from (fresh_pass E id f) k (suc j) ≡ made_from (fresh_pass E id f) 0 n
      → counter < n → m' ≡ (other_parts m.0, m.1) → items' ≡ items ++ fresh_pass E id f k ∷ [] → Dealt id f n (counter + 1) m' items'
  more id f n counter k zero m m' items items' count all parts passes test left_is items_is = absurd (omega arith)
  more id f n counter k (suc j) m m' items items' count all parts passes test left_is items_is = record {
    dealt = suc k;
    left = j;
    count = omega arith;
    all = omega arith;
    parts = left_is ∙ ap (λ (x : Sat V E F). (other_parts x.0, x.1)) parts;
    passes = ap (λ (x : List (PassValue E F)). x ++ made_from (fresh_pass E id f) (suc k) (suc j)) items_is
        ∙ append_assoc items (fresh_pass E id f k ∷ []) (made_from (fresh_pass E id f) (suc k) (suc j)) ∙ passes;
  }

  pub dealt_more : {id : TableId} {f : F} {n counter : ℕ} {m : Sat V E F} {items : List (PassValue E F)} (d : Dealt id f n counter m items) (m' : Sat V E F) (items' : List (PassValue E F)) (v : PassValue E F)
      → counter < n → m' ≡ (other_parts m.0, m.1) → items' ≡ items ++ v ∷ [] → v ≡ fresh_pass E id f d.dealt → Dealt id f n (counter + 1) m' items'
  dealt_more {id} {f} {n} {counter} {m} {items} d m' items' v test left_is items_is v_is =
      more id f n counter d.dealt d.left m m' items items' d.count d.all d.parts d.passes test left_is (items_is ∙ ap (λ (x : PassValue E F). items ++ x ∷ []) v_is)

  alone : (f : F) (n counter k j : ℕ) (m : Sat V E F) → k + 1 ≡ counter → k + suc j ≡ n → m ≡ (made_from (fresh_part V E f) k (suc j), []) → n ≤ counter → m ≡ (fresh_part V E f k ∷ [], [])
  alone f n counter k zero m count all parts test = parts
  alone f n counter k (suc j) m count all parts test = absurd (omega arith)

  pub dealt_last : {id : TableId} {f : F} {n counter : ℕ} {m : Sat V E F} {items : List (PassValue E F)} (d : Dealt id f n counter m items) → n ≤ counter → m ≡ (fresh_part V E f d.dealt ∷ [], [])
  dealt_last {id} {f} {n} {counter} {m} d test = alone f n counter d.dealt d.left m d.count d.all d.parts test

  -- the one part of a pass shows that pass
  pub one_shows : (id id' : TableId) (f : F) (m : Sat V E F) (pass : PassValue E F) (k : IsPass f m) → pass_value id' f m.0 ≡ pass → id' ≡ id → shown_part id k.part ≡ pass
  one_shows id id' f m pass k shows of =
      ap (λ (x : F). record (shown_part id k.part) { fixed = x }) k.same ∙ ap (λ (x : Sat V E F). pass_value id f x.0) (sym k.is) ∙ ap (λ (x : TableId). pass_value x f m.0) (sym of) ∙ shows

  pub alone_shows : (id id' : TableId) (f : F) (m : Sat V E F) (pass : PassValue E F) (k : IsPass f m) → pass_value id' f m.0 ≡ pass → id' ≡ id → map (shown_part id) m.0 ≡ pass ∷ []
  alone_shows id id' f m pass k shows of = ap (λ (x : Sat V E F). map (shown_part id) x.0) k.is ∙ ap (λ (x : PassValue E F). x ∷ []) (one_shows id id' f m pass k shows of)

  -- a seat that takes in the one part of a pass shows that pass before the others
  pub joined_shows : (id id' : TableId) (f : F) (m m' other : Sat V E F) (pass : PassValue E F) (k : IsPass f other) → m' ≡ (other.0 ++ m.0, m.1) → pass_value id' f other.0 ≡ pass → id' ≡ id
      → map (shown_part id) m'.0 ≡ pass ∷ map (shown_part id) m.0
  joined_shows id id' f m m' other pass k is shows of =
      ap (λ (x : Sat V E F). map (shown_part id) x.0) is ∙ ap (λ (x : Sat V E F). map (shown_part id) (x.0 ++ m.0)) k.is
      ∙ ap (λ (x : PassValue E F). x ∷ map (shown_part id) m.0) (one_shows id id' f other pass k shows of)

  pub joined_idle : (f : F) (m m' other : Sat V E F) (k : IsPass f other) → m' ≡ (other.0 ++ m.0, m.1) → All IsIdle m.0 → All IsIdle m'.0
  joined_idle f m m' other k is idle =
      All-same IsIdle m'.0 (k.part ∷ m.0) (ap (λ (x : Sat V E F). x.0) is ∙ ap (λ (x : Sat V E F). x.0 ++ m.0) k.is) (All-cons IsIdle k.part m.0 k.idle idle)
