-- The keys of each kind of table, in their order: rule, limit, and whether the key has to be there.
use Rattle.std.specs.Prelude.{true, false, List, [], ◌∷◌}
use Rattle.flat_model.specs.declared.refusals.Key.{Key}
use Rattle.flat_model.specs.declared.refusals.Key.TheVariants as key
use Rattle.board_map.specs.declared.rows.Format.{Format}
use Rattle.board_map.specs.declared.rows.Format.TheVariants as format
use Rattle.board_map.specs.declared.rows.Form.{Form}
use Rattle.board_map.specs.declared.rows.Form.TheVariants as form
use Rattle.board_map.specs.declared.rows.Choice.TheVariants as choice
use Rattle.board_map.specs.declared.rows.Each.TheVariants as each
use Rattle.board_map.specs.declared.rows.Rule.{Rule}
use Rattle.board_map.specs.declared.rows.Rule.TheVariants as rule
use Rattle.board_map.specs.declared.rows.Limit.{Limit}
use Rattle.board_map.specs.declared.rows.Limit.TheVariants as limit
use Rattle.board_map.specs.declared.rows.Row.{Row}

-- a key that has to be there
abbrev pub required : Key → Rule → Limit → Row
required k r l = record { key = k; rule = r; limit = l; required = true }

-- a key that may be left out
abbrev pub optional : Key → Rule → Limit → Row
optional k r l = record { key = k; rule = r; limit = l; required = false }

-- an integer from 0 to 4294967295
abbrev pub a_word : Rule
a_word = rule.Integer 0 4294967295

-- an array of tables
abbrev pub tables : Rule
tables = rule.Array each.Table false

-- an array of at least one table
abbrev pub some_tables : Rule
some_tables = rule.Array each.Table true

-- an array of strings
abbrev pub texts : Rule
texts = rule.Array each.Text false

-- the rows of a kind of table
unfoldable pub rows_of : Format → Form → List Row
rows_of format.One form.Top =
    required key.Format (rule.Integer 1 1) limit.Free
    ∷ required key.Board rule.Table limit.Free
    ∷ required key.AtBox some_tables (limit.Items 8)
    ∷ optional key.Register tables (limit.Items 32)
    ∷ optional key.Gateway tables (limit.Items 32)
    ∷ optional key.Device tables (limit.Items 4)
    ∷ optional key.Script texts limit.Script
    ∷ []
rows_of format.One form.Board =
    required key.Flash rule.Pair limit.Free
    ∷ required key.Sram rule.Pair limit.Free
    ∷ required key.Peripherals rule.Pair limit.Free
    ∷ optional key.Secret rule.Pair limit.Free
    ∷ optional key.Words (rule.Array each.Pair false) (limit.Items 64)
    ∷ optional key.Heap rule.Table limit.Free
    ∷ []
rows_of format.One form.Heap =
    required key.Base a_word limit.Free
    ∷ required key.Page a_word limit.Free
    ∷ required key.Count a_word limit.Free
    ∷ []
rows_of format.One form.AtBox =
    required key.Name rule.Text limit.Free
    ∷ required key.Size (rule.Integer 1 1048576) limit.Free
    ∷ optional key.Secret rule.Owner limit.Free
    ∷ optional key.Server rule.Server limit.Free
    ∷ required key.Thread some_tables limit.Threads
    ∷ optional key.Grant tables (limit.Items 64)
    ∷ optional key.Irq tables (limit.Items 64)
    ∷ []
rows_of format.One form.Thread =
    required key.Program rule.Text limit.Free
    ∷ optional key.Steps (rule.Integer 1 100000) limit.Steps
    ∷ []
rows_of format.One form.Grant =
    required key.Base a_word limit.Free
    ∷ required key.Len a_word limit.Free
    ∷ required key.Rights (rule.Word choice.Rights) limit.Free
    ∷ optional key.Round (rule.Word choice.Round) limit.Free
    ∷ optional key.Shared rule.Flag limit.Free
    ∷ []
rows_of format.One form.Irq =
    required key.Line (rule.Integer 0 63) limit.Free
    ∷ required key.Handler (rule.Integer 0 65535) limit.Free
    ∷ []
rows_of format.One form.Register =
    required key.At a_word limit.Free
    ∷ required key.Op (rule.Word choice.Op) limit.Free
    ∷ optional key.Mask a_word limit.Free
    ∷ required key.Boxes texts (limit.Items 8)
    ∷ []
rows_of format.One form.Gateway =
    required key.AtBox rule.Text limit.Free
    ∷ required key.Function a_word limit.Free
    ∷ required key.Callers texts (limit.Items 8)
    ∷ []
rows_of format.One form.Device =
    required key.Rings (rule.Array each.Line false) limit.Rings
    ∷ []
