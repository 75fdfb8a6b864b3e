-- Inner: no public contract cites this. The log of a configuration that is written down, and its text.
use Rattle.std.proofs.Common.{ℕ, Bool, List, [], ◌∷◌, ◌++◌}
use Rattle.std.specs.Prelude.{◌&&◌}
use Rattle.std.specs.List.{flat_map, list_all}
use Rattle.flat_model.specs.declared.instructions.Instr.{Instr}
use Rattle.flat_model.specs.declared.parts.Config.{Config}
use Rattle.flat_model.specs.declared.parts.Item.{Item}
use Rattle.flat_model.specs.declared.parts.ScriptWord.{ScriptWord}
use Rattle.flat_model.specs.declared.parts.ScriptWord.TheVariants as word
use Rattle.flat_model.specs.declared.parts.ThreadPart.{ThreadPart}
use Rattle.flat_model.specs.declared.events.Logged.TheVariants as item
use lib.Count.{count_leading_zeros}
use Rattle.std.specs.Fmt.{digits}
use Rattle.flat_model.specs.Greatest.{greatest}
use Rattle.flat_model.specs.Memory.{byte_at, put_byte}
use Rattle.flat_model.specs.Run.{opening_state}
use Rattle.flat_model.specs.Script.{choice_of_word}
use Rattle.flat_model.specs.Step.{empties_slots, step, touch_of}
use Rattle.flat_model.specs.UnitRun.{unit_after, unit_lines}
use Rattle.flat_model.specs.Cover.{blocks}
use Rattle.flat_model.specs.Legal.{all_fit, is_agreed}
use Rattle.flat_model.specs.Log.{choices_of, entries_of, events_of, is_named_item}
use Rattle.flat_model.specs.OneLog.{log_of_choices, script_log}
use Rattle.flat_model.specs.Text.{end_line, hex_word, item_line, text_of, thread_text}

-- a line of this text
abbrev pub line : List ℕ → List ℕ
line text = text ++ 10 ∷ []

-- lines of these texts
abbrev pub lines : List (List ℕ) → List ℕ
lines texts = flat_map line texts

-- a thread of a box
abbrev pub thread_of : ℕ → ℕ → List Instr → ThreadPart
thread_of home steps program = record { home = record { 0 = home }; program = program; steps = steps }

-- a turn of a thread
abbrev pub at : ℕ → ScriptWord
at t = word.Thread (record { 0 = t })

-- a ring of a line
abbrev pub ring : ℕ → ScriptWord
ring l = word.Ring (record { 0 = l })

-- an item
abbrev pub item_of : ℕ → ℕ → ℕ → Item
item_of base len rights = record { range = record { base = base; len = len }; rights = record { bits = rights } }

-- the text of the log of a configuration's script
unfoldable pub log_text : Config → List ℕ
unfolding log_of_choices unit_lines unit_after choice_of_word opening_state item_line end_line touch_of empties_slots step thread_text hex_word greatest count_leading_zeros blocks byte_at put_byte digits
log_text cfg = text_of cfg (script_log cfg)

-- the same without the unit's lines and the threads' lines
unfoldable pub core_text : Config → List ℕ
unfolding log_of_choices unit_lines unit_after choice_of_word opening_state item_line end_line touch_of empties_slots step thread_text hex_word greatest count_leading_zeros blocks byte_at put_byte digits
core_text cfg = flat_map (λ e. item_line cfg (item.Core e)) (entries_of (script_log cfg).items)

-- the log's items are named, its accesses agree with its replies, and its choices fit
unfoldable pub is_good : Config → Bool
unfolding log_of_choices unit_lines unit_after choice_of_word opening_state item_line end_line touch_of empties_slots step thread_text hex_word greatest count_leading_zeros blocks byte_at put_byte digits
is_good cfg =
    list_all (is_named_item cfg) (script_log cfg).items
    && list_all is_agreed (events_of (script_log cfg).items)
    && all_fit cfg (opening_state cfg) (choices_of (script_log cfg).items)
