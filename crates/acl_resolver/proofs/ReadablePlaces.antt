-- What holds of each table of a document whose shape is not refused, and of what the tables say up to it.
use Rattle.std.proofs.Common.{◌≡◌, ℕ, ◌+◌, Bool, true, false, ◌&&◌, List, [], ◌∷◌, ◌++◌, Option, Some, None, is_none, Result, refl, ap, subst}
use Rattle.std.specs.List.{AllByRecursion}
use Rattle.std.specs.Option.{option_or}
use Rattle.std.specs.Result.{result_err}
use Rattle.flat_model.specs.First.{first_of, number, onward, refuse_if, unless_refused}
use Rattle.flat_model.specs.declared.refusals.Refused.{Refused}
use Rattle.toml.specs.Data.{Items, no_items, item, Members, as_table}
use Rattle.board_map.specs.declared.rows.Form.{Form}
use Rattle.board_map.specs.declared.rows.Format.{Format}
use Rattle.board_map.specs.declared.rows.Format.TheVariants as format
use Rattle.board_map.specs.declared.rows.Row.{Row}
use Rattle.board_map.specs.declared.totals.Totals.{Totals}
use Rattle.board_map.specs.declared.walk.Pass.{Pass}
use Rattle.board_map.specs.declared.walk.Pass.TheVariants as pass
use Rattle.board_map.specs.Rows.{rows_of}
use Rattle.board_map.specs.Shape.{Place, boxes_in, box_places, is_bad, opening, pass_refusal, place_at, places, places_in, row_refusal, shape_refusal, spot_in, table_refusal, turn, walk}
use Rattle.board_map.specs.Tree.{value_at}
use Rattle.board_map.specs.Values.{after, is_over}
use Rattle.flat_model.specs.declared.refusals.Spot.{Spot}

-- what is known of a key of a table, behind other tables
pub record IsGoodRow (t : Totals) (ms : Members) (row : Row) : Type 0 where
  pub there : (row.required && is_none (value_at row.key ms)) ≡ false
  pub fit : is_bad row t ms (value_at row.key ms) ≡ false
  pub within : is_over row.limit row.key t ms ≡ false

-- what is known of each key of a kind of table
abbrev pub IsGoodTable : Totals → Form → Members → Type 0
IsGoodTable t f ms = AllByRecursion (IsGoodRow t ms) (rows_of format.One f)

-- what the tables say up to the end of these
abbrev pub moved : Totals → List Place → Totals
moved t [] = t
moved t (p ∷ ps) = moved (after p.form p.members t) ps

-- what is known of each of these tables
abbrev pub AreGood : Totals → List Place → Type 0
AreGood t [] = Unit {0}
AreGood t (p ∷ ps) = IsGoodTable t p.form p.members × AreGood (after p.form p.members t) ps

-- where nothing is the first of two, nothing is either
pub both_none : {A : Type 0} (a b : Option A) → option_or a b ≡ None → (a ≡ None) × (b ≡ None)
both_none None b none = (refl, none)
both_none (Some x) b none = absurd (cc)

-- a condition that is not refused does not hold
pub not_refused : (holds : Bool) (r : Refused) → refuse_if holds r ≡ None → holds ≡ false
not_refused true r none = absurd (cc)
not_refused false r none = refl

good_rows : (t : Totals) (s : Spot) (ms : Members) (rows : List Row) → first_of (row_refusal pass.Missing t s ms) rows ≡ None
    → first_of (row_refusal pass.Bad t s ms) rows ≡ None → first_of (row_refusal pass.Many t s ms) rows ≡ None → AllByRecursion (IsGoodRow t ms) rows
good_rows t s ms [] missing bad many = tt
good_rows t s ms (row ∷ rows) missing bad many =
    let there = both_none (row_refusal pass.Missing t s ms row) (first_of (row_refusal pass.Missing t s ms) rows) missing in
    let fit = both_none (row_refusal pass.Bad t s ms row) (first_of (row_refusal pass.Bad t s ms) rows) bad in
    let within = both_none (row_refusal pass.Many t s ms row) (first_of (row_refusal pass.Many t s ms) rows) many in (
      record { there = not_refused _ _ there.0; fit = not_refused _ _ fit.0; within = not_refused _ _ within.0 },
      good_rows t s ms rows there.1 fit.1 within.1,
    )

one_format : (v : Format) → v ≡ format.One
one_format format.One = refl

good_table : (t : Totals) (s : Spot) (f : Form) (ms : Members) → table_refusal pass.Missing t s ms (rows_of t.version f) ≡ None
    → table_refusal pass.Bad t s ms (rows_of t.version f) ≡ None → table_refusal pass.Many t s ms (rows_of t.version f) ≡ None → IsGoodTable t f ms
good_table t s f ms missing bad many =
    subst (λ (v : Format). AllByRecursion (IsGoodRow t ms) (rows_of v f)) (one_format t.version) (good_rows t s ms (rows_of t.version f) missing bad many)

goes_on : (o : Option Refused) (v : Totals) (f : Totals → Result Totals Refused) → result_err (onward (unless_refused o v) f) ≡ None → (o ≡ None) × (result_err (f v) ≡ None)
goes_on None v f none = (refl, none)
goes_on (Some r) v f none = absurd (cc)

next_of : (w : Pass) (t : Totals) (p : Place) (ps : List Place) → result_err (walk w t (p ∷ ps)) ≡ None
    → (table_refusal w t p.spot p.members (rows_of t.version p.form) ≡ None) × (result_err (walk w (after p.form p.members t) ps) ≡ None)
unfolding walk turn
next_of w t p ps none = goes_on (table_refusal w t p.spot p.members (rows_of t.version p.form)) (after p.form p.members t) (λ next. walk w next ps) none

good_places : (t : Totals) (ps : List Place) → result_err (walk pass.Missing t ps) ≡ None → result_err (walk pass.Bad t ps) ≡ None → result_err (walk pass.Many t ps) ≡ None → AreGood t ps
good_places t [] missing bad many = tt
good_places t (p ∷ ps) missing bad many =
    let there = next_of pass.Missing t p ps missing in
    let fit = next_of pass.Bad t p ps bad in
    let within = next_of pass.Many t p ps many in
    (good_table t p.spot p.form p.members there.0 fit.0 within.0, good_places (after p.form p.members t) ps there.1 fit.1 within.1)

-- a document whose shape is not refused has only good tables
pub good_document : (doc : Members) → shape_refusal doc ≡ None → AreGood (opening doc) (places doc)
unfolding shape_refusal pass_refusal
good_document doc none =
    let unknown = both_none (pass_refusal doc pass.Unknown) _ none in
    let missing = both_none (pass_refusal doc pass.Missing) _ unknown.1 in
    let bad = both_none (pass_refusal doc pass.Bad) _ missing.1 in
    let many = both_none (pass_refusal doc pass.Many) _ bad.1 in
    good_places (opening doc) (places doc) missing.0 bad.0 many.0

-- good tables and others behind them
pub good_split : (t : Totals) (ps qs : List Place) → AreGood t (ps ++ qs) → AreGood t ps × AreGood (moved t ps) qs
good_split t [] qs good = (tt, good)
good_split t (p ∷ ps) qs good =
    let rest = good_split (after p.form p.members t) ps qs good.1 in
    ((good.0, rest.0), rest.1)

-- what tables and others behind them say
pub moved_append : (t : Totals) (ps qs : List Place) → moved t (ps ++ qs) ≡ moved (moved t ps) qs
moved_append t [] qs = refl
moved_append t (p ∷ ps) qs = moved_append (after p.form p.members t) ps qs

-- the tables that each element of an array gives
abbrev pub parts_in : (ℕ → Option Members → List Place) → ℕ → Items → List Place
parts_in piece i no_items = []
parts_in piece i (item d ds) = piece (number i) (as_table d) ++ parts_in piece (i + 1) ds

-- what an array of tables of one kind gives at an element
abbrev pub piece_of : Form → ℕ → ℕ → Option Members → List Place
piece_of f b i o = place_at (spot_in f b i) f o

-- the tables of an array of one kind, element by element
pub places_in_parts : (f : Form) (b i : ℕ) (ds : Items) → places_in f b i ds ≡ parts_in (piece_of f b) i ds
unfolding places_in
places_in_parts f b i no_items = refl
places_in_parts f b i (item d ds) = ap (λ (ps : List Place). place_at (spot_in f b (number i)) f (as_table d) ++ ps) (places_in_parts f b (i + 1) ds)

-- the boxes of an array, element by element
pub boxes_in_parts : (i : ℕ) (ds : Items) → boxes_in i ds ≡ parts_in box_places i ds
unfolding boxes_in
boxes_in_parts i no_items = refl
boxes_in_parts i (item d ds) = ap (λ (ps : List Place). box_places (number i) (as_table d) ++ ps) (boxes_in_parts (i + 1) ds)
