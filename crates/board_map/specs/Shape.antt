-- The shape of a document: its tables in order, and the first of them that is refused.
use Rattle.std.specs.Prelude.{ℕ, ◌+◌, Bool, not, ◌&&◌, ◌||◌, false, List, [], ◌∷◌, ◌++◌, Option, Some, None, is_none, Result, Ok}
use Rattle.std.specs.Result.{result_err}
use Rattle.std.specs.Str.{bytes_eq}
use Rattle.std.specs.List.{list_any}
use Rattle.flat_model.specs.First.{first_of, number, onward, refuse_if, unless_refused}
use Rattle.flat_model.specs.declared.refusals.Key.{Key}
use Rattle.flat_model.specs.declared.refusals.Key.TheVariants as key
use Rattle.flat_model.specs.declared.refusals.Refused.{Refused}
use Rattle.flat_model.specs.declared.refusals.Refused.TheVariants as refused
use Rattle.flat_model.specs.declared.refusals.Spot.{Spot}
use Rattle.flat_model.specs.declared.refusals.Spot.TheVariants as spot
use Rattle.toml.specs.Data.{Data, Items, no_items, item, Members, no_members, member, as_table}
use Rattle.board_map.specs.declared.rows.Form.{Form}
use Rattle.board_map.specs.declared.rows.Form.TheVariants as form
use Rattle.board_map.specs.declared.rows.Format.{Format}
use Rattle.board_map.specs.declared.rows.Format.TheVariants as format
use Rattle.board_map.specs.declared.rows.Row.{Row}
use Rattle.board_map.specs.declared.totals.Totals.{Totals}
use Rattle.board_map.specs.declared.walk.Pass.{Pass}
use Rattle.board_map.specs.declared.walk.Pass.TheVariants as pass
use Rattle.board_map.specs.Keys.{key_name}
use Rattle.board_map.specs.Rows.{rows_of}
use Rattle.board_map.specs.Tree.{items_at, table_at, value_at}
use Rattle.board_map.specs.Values.{after, fits, is_over}

-- a table of the document: where it stands, its kind, and what it holds
pub record Place : Type 0 where
  pub spot : Spot
  pub form : Form
  pub members : Members

-- where a table of an array stands, by its kind, its box and its place in the array
abbrev pub spot_in : Form → ℕ → ℕ → Spot
spot_in form.Top b i = spot.Top
spot_in form.Board b i = spot.Board
spot_in form.Heap b i = spot.Heap
spot_in form.AtBox b i = spot.AtBox i
spot_in form.Thread b i = spot.Thread b i
spot_in form.Grant b i = spot.Grant b i
spot_in form.Irq b i = spot.Irq b i
spot_in form.Register b i = spot.Register i
spot_in form.Gateway b i = spot.Gateway i
spot_in form.Device b i = spot.Device i

-- the table alone, or nothing where the value is none
abbrev pub place_at : Spot → Form → Option Members → List Place
place_at s f None = []
place_at s f (Some ms) = record { spot = s; form = f; members = ms } ∷ []

-- the tables of an array from place i on
unfoldable pub places_in : Form → ℕ → ℕ → Items → List Place
places_in f b i no_items = []
places_in f b i (item d ds) = place_at (spot_in f b (number i)) f (as_table d) ++ places_in f b (i + 1) ds

-- the key whose array has the tables of a kind
abbrev pub array_key : Form → Key
array_key form.Thread = key.Thread
array_key form.Grant = key.Grant
array_key form.Irq = key.Irq
array_key form.Register = key.Register
array_key form.Gateway = key.Gateway
array_key form.Device = key.Device
array_key _ = key.AtBox

-- the tables of these kinds that a table's arrays hold, kind after kind
unfoldable pub sections : ℕ → Members → List Form → List Place
sections b ms [] = []
sections b ms (f ∷ fs) = places_in f b 0 (items_at (array_key f) ms) ++ sections b ms fs

-- a box, and then its threads, its grants and its lines
unfoldable pub box_places : ℕ → Option Members → List Place
box_places b None = []
box_places b (Some ms) =
    record { spot = spot.AtBox b; form = form.AtBox; members = ms }
    ∷ sections b ms (form.Thread ∷ form.Grant ∷ form.Irq ∷ [])

-- the boxes of an array from place i on, each with its tables
unfoldable pub boxes_in : ℕ → Items → List Place
boxes_in i no_items = []
boxes_in i (item d ds) = box_places (number i) (as_table d) ++ boxes_in (i + 1) ds

-- the board, and then its heap
unfoldable pub board_places : Option Members → List Place
board_places None = []
board_places (Some ms) = record { spot = spot.Board; form = form.Board; members = ms } ∷ place_at spot.Heap form.Heap (table_at key.Heap ms)

-- all tables of the document, in table order
unfoldable pub places : Members → List Place
places doc =
    record { spot = spot.Top; form = form.Top; members = doc }
    ∷ board_places (table_at key.Board doc)
    ++ (boxes_in 0 (items_at key.AtBox doc)
    ++ sections 0 doc (form.Register ∷ form.Gateway ∷ form.Device ∷ []))

-- a row has this key
abbrev pub is_known : List Row → List ℕ → Bool
is_known rows name = list_any (λ row. bytes_eq (key_name row.key) name) rows

-- some key of the table is in no row
abbrev pub has_unknown : List Row → Members → Bool
has_unknown rows no_members = false
has_unknown rows (member name d ms) = not (is_known rows name) || has_unknown rows ms

-- the value is there and breaks its rule
abbrev pub is_bad : Row → Totals → Members → Option Data → Bool
is_bad row t ms None = false
is_bad row t ms (Some d) = not (fits row.rule t ms d)

-- what a pass refuses of one key of the table at a spot; unknown keys are refused a table at a time
abbrev pub row_refusal : Pass → Totals → Spot → Members → Row → Option Refused
row_refusal pass.Unknown t s ms row = None
row_refusal pass.Missing t s ms row = refuse_if (row.required && is_none (value_at row.key ms)) (refused.MissingKey s row.key)
row_refusal pass.Bad t s ms row = refuse_if (is_bad row t ms (value_at row.key ms)) (refused.BadValue s row.key)
row_refusal pass.Many t s ms row = refuse_if (is_over row.limit row.key t ms) (refused.TooMany s row.key)

-- what a pass refuses of the table at a spot, whose rows are these
abbrev pub table_refusal : Pass → Totals → Spot → Members → List Row → Option Refused
table_refusal pass.Unknown t s ms rows = refuse_if (has_unknown rows ms) (refused.UnknownKey s)
table_refusal w t s ms rows = first_of (row_refusal w t s ms) rows

-- a pass over one table: what the tables say up to there, or the refusal
unfoldable pub turn : Pass → Totals → Place → Result Totals Refused
turn w t p = unless_refused (table_refusal w t p.spot p.members (rows_of t.version p.form)) (after p.form p.members t)

-- a pass over tables in order
unfoldable pub walk : Pass → Totals → List Place → Result Totals Refused
walk w t [] = Ok t
walk w t (p ∷ ps) = onward (turn w t p) (λ next. walk w next ps)

-- the version of the document's format; there is one
abbrev pub format_of : Members → Format
format_of doc = format.One

-- what is known before the first table
abbrev pub opening : Members → Totals
opening doc = record { version = format_of doc; secret_free = false; threads = 0; steps = 0; rings = 0 }

-- the passes in order
abbrev pub passes : List Pass
passes = pass.Unknown ∷ pass.Missing ∷ pass.Bad ∷ pass.Many ∷ []

-- what one pass refuses of the document
unfoldable pub pass_refusal : Members → Pass → Option Refused
pass_refusal doc w = result_err (walk w (opening doc) (places doc))

-- the first refusal of the document's shape, each pass over the whole document
unfoldable pub shape_refusal : Members → Option Refused
shape_refusal doc = first_of (pass_refusal doc) passes
