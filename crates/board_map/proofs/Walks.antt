-- A pass over tables in parts.
use Rattle.std.proofs.Common.{◌≡◌, ℕ, ◌+◌, ◌<◌, ◌≤◌, List, [], ◌∷◌, ◌++◌, length, drop, get_or, Result, Ok, Err, refl, ◌∙◌}
use Rattle.std.proofs.lemmas.List.{drop_all, drop_more}
use Rattle.flat_model.specs.First.{number, onward}
use Rattle.flat_model.specs.declared.refusals.Refused.{Refused}
use Rattle.toml.specs.Data.{Members, as_table}
use Rattle.toml.specs.View.{items_view, view}
use Rattle.toml.specs.declared.value.Value.{Value}
use Rattle.toml.proofs.Views.{items_view-drop}
use Rattle.board_map.specs.declared.rows.Form.{Form}
use Rattle.board_map.specs.declared.totals.Totals.{Totals}
use Rattle.board_map.specs.declared.walk.Pass.{Pass}
use Rattle.board_map.specs.Tree.{items_at}
use Rattle.board_map.specs.Shape.{Place, array_key, box_places, boxes_in, place_at, places_in, sections, spot_in, turn, walk}

onward_onward : {T E : Type 0} (r : Result T E) (f g : T → Result T E) → onward r (λ v. onward (f v) g) ≡ onward (onward r f) g
onward_onward (Ok v) f g = refl
onward_onward (Err e) f g = refl

same_onward : {T E : Type 0} (r : Result T E) (f g : T → Result T E) → ((v : T) → f v ≡ g v) → onward r f ≡ onward r g
same_onward (Ok v) f g same = same v
same_onward (Err e) f g same = refl

-- a pass over one part and then another
pub walk_append : (w : Pass) (t : Totals) (ps qs : List Place) → walk w t (ps ++ qs) ≡ onward (walk w t ps) (λ next. walk w next qs)
unfolding walk
walk_append w t [] qs = refl
walk_append w t (p ∷ ps) qs =
    same_onward (turn w t p) _ (λ next. onward (walk w next ps) (λ v. walk w v qs)) (λ next. walk_append w next ps qs)
    ∙ onward_onward (turn w t p) (λ next. walk w next ps) (λ v. walk w v qs)

onward_ok : {T E : Type 0} (r : Result T E) → onward r (λ v. Ok v) ≡ r
onward_ok (Ok v) = refl
onward_ok (Err e) = refl

-- a pass over one table
pub walk_one : (w : Pass) (t : Totals) (p : Place) → walk w t (p ∷ []) ≡ turn w t p
unfolding walk
walk_one w t p = onward_ok (turn w t p)

-- a pass over a table and those behind it
pub walk_first : (w : Pass) (t : Totals) (p : Place) (ps : List Place) → walk w t (p ∷ ps) ≡ onward (turn w t p) (λ next. walk w next ps)
unfolding walk
walk_first w t p ps = refl

-- a pass over no table
pub walk_none : (w : Pass) (t : Totals) → walk w t [] ≡ Ok t
unfolding walk
walk_none w t = refl

-- a part that a pass goes through, and the next part
pub walk_then : (w : Pass) (t next : Totals) (ps qs : List Place) → walk w t ps ≡ Ok next → walk w t (ps ++ qs) ≡ walk w next qs
walk_then w t next ps qs through = walk_append w t ps qs ∙ rw through refl

-- a part at which a pass stops
pub walk_stop : (w : Pass) (t : Totals) (r : Refused) (ps qs : List Place) → walk w t ps ≡ Err r → walk w t (ps ++ qs) ≡ Err r
walk_stop w t r ps qs stop = walk_append w t ps qs ∙ rw stop refl

-- a table that a pass goes through, and those behind it
pub first_then : (w : Pass) (t next : Totals) (p : Place) (ps : List Place) → turn w t p ≡ Ok next → walk w t (p ∷ ps) ≡ walk w next ps
first_then w t next p ps through = walk_first w t p ps ∙ rw through refl

-- a table at which a pass stops
pub first_stop : (w : Pass) (t : Totals) (r : Refused) (p : Place) (ps : List Place) → turn w t p ≡ Err r → walk w t (p ∷ ps) ≡ Err r
first_stop w t r p ps stop = walk_first w t p ps ∙ rw stop refl

-- the rest of an array of tables from place i on
abbrev pub rest_in : Form → ℕ → ℕ → List Value → List Place
rest_in f b i vs = places_in f b i (items_view (drop i vs))

places_more : (f : Form) (b i : ℕ) (vs : List Value) (v : Value) → i < length vs → v ≡ get_or vs i v
    → rest_in f b i vs ≡ place_at (spot_in f b (number i)) f (as_table (view v)) ++ rest_in f b (i + 1) vs
unfolding places_in
places_more f b i vs v within same = rw (items_view-drop vs i v within, ← same) refl

places_end : (f : Form) (b i : ℕ) (vs : List Value) → length vs ≤ i → rest_in f b i vs ≡ []
unfolding places_in
places_end f b i vs past = rw (drop_all i vs past) refl

-- one more table of an array
pub rest_more : (w : Pass) (t : Totals) (f : Form) (b i : ℕ) (vs : List Value) (v : Value) (r : Result Totals Refused) → i < length vs → v ≡ get_or vs i v
    → r ≡ walk w t (place_at (spot_in f b (number i)) f (as_table (view v))) → walk w t (rest_in f b i vs) ≡ onward r (λ next. walk w next (rest_in f b (i + 1) vs))
rest_more w t f b i vs v r within same is = rw (places_more f b i vs v within same, is) (walk_append w t _ _)

-- the end of an array
pub rest_end : (w : Pass) (t : Totals) (f : Form) (b i : ℕ) (vs : List Value) → length vs ≤ i → walk w t (rest_in f b i vs) ≡ Ok t
rest_end w t f b i vs past = rw (places_end f b i vs past) (walk_none w t)

-- the rest of the boxes from place i on
abbrev pub boxes_rest : ℕ → List Value → List Place
boxes_rest i vs = boxes_in i (items_view (drop i vs))

boxes_places_more : (i : ℕ) (vs : List Value) (v : Value) → i < length vs → v ≡ get_or vs i v
    → boxes_rest i vs ≡ box_places (number i) (as_table (view v)) ++ boxes_rest (i + 1) vs
unfolding boxes_in
boxes_places_more i vs v within same = rw (items_view-drop vs i v within, ← same) refl

boxes_places_end : (i : ℕ) (vs : List Value) → length vs ≤ i → boxes_rest i vs ≡ []
unfolding boxes_in
boxes_places_end i vs past = rw (drop_all i vs past) refl

-- one more box
pub boxes_more : (w : Pass) (t : Totals) (i : ℕ) (vs : List Value) (v : Value) (r : Result Totals Refused) → i < length vs → v ≡ get_or vs i v
    → r ≡ walk w t (box_places (number i) (as_table (view v))) → walk w t (boxes_rest i vs) ≡ onward r (λ next. walk w next (boxes_rest (i + 1) vs))
boxes_more w t i vs v r within same is = rw (boxes_places_more i vs v within same, is) (walk_append w t _ _)

-- the end of the boxes
pub boxes_end : (w : Pass) (t : Totals) (i : ℕ) (vs : List Value) → length vs ≤ i → walk w t (boxes_rest i vs) ≡ Ok t
boxes_end w t i vs past = rw (boxes_places_end i vs past) (walk_none w t)

-- one more kind of tables
pub sections_more : (w : Pass) (t : Totals) (b : ℕ) (ms : Members) (fs : List Form) (i : ℕ) (d : Form) (r : Result Totals Refused) → i < length fs
    → r ≡ walk w t (places_in (get_or fs i d) b 0 (items_at (array_key (get_or fs i d)) ms)) → walk w t (sections b ms (drop i fs)) ≡ onward r (λ next. walk w next (sections b ms (drop (i + 1) fs)))
unfolding sections
sections_more w t b ms fs i d r within is = rw (drop_more fs i d within, is) (walk_append w t _ _)

-- the end of the kinds
pub sections_end : (w : Pass) (t : Totals) (b : ℕ) (ms : Members) (fs : List Form) (i : ℕ) → length fs ≤ i → walk w t (sections b ms (drop i fs)) ≡ Ok t
unfolding sections
sections_end w t b ms fs i past = rw (drop_all i fs past) (walk_none w t)

-- how a pass goes on from part to part
pub ruleset steps = (walk_then, walk_stop, first_then, first_stop, walk_none, walk_one)
