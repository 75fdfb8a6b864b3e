-- What a value has to be, and how far lists and sums go.
use Rattle.std.specs.Prelude.{ℕ, ◌+◌, Bool, true, false, not, ◌&&◌, ◌||◌, ◌==◌, nat_le, nat_lt, if◌then◌else◌, List, codes, Option, Some, None, is_some, nat_eq, option_and_then, unwrap_or}
use Rattle.std.specs.List.{starts_with}
use Rattle.flat_model.specs.First.{number}
use Rattle.flat_model.specs.declared.refusals.Key.{Key}
use Rattle.flat_model.specs.declared.refusals.Key.TheVariants as key
use Rattle.toml.specs.Data.{Data, Items, no_items, item, Members, as_array, as_bool, as_str, as_table}
use Rattle.board_map.specs.declared.rows.Each.{Each}
use Rattle.board_map.specs.declared.rows.Each.TheVariants as each
use Rattle.board_map.specs.declared.rows.Form.{Form}
use Rattle.board_map.specs.declared.rows.Form.TheVariants as form
use Rattle.board_map.specs.declared.rows.Rule.{Rule}
use Rattle.board_map.specs.declared.rows.Rule.TheVariants as rule
use Rattle.board_map.specs.declared.rows.Limit.{Limit}
use Rattle.board_map.specs.declared.rows.Limit.TheVariants as limit
use Rattle.board_map.specs.declared.rows.Choice.{Choice}
use Rattle.board_map.specs.declared.totals.Totals.{Totals}
use Rattle.board_map.specs.Tree.{count, items_at, natural_of, value_at, flag_at, integer_at}
use Rattle.board_map.specs.Words.{is_word}

-- the number is there, and from low to high
abbrev pub lies_between : ℕ → ℕ → Option ℕ → Bool
lies_between low high None = false
lies_between low high (Some n) = nat_le low n && nat_le n high

-- the value is an integer from low to high
abbrev pub is_between : ℕ → ℕ → Data → Bool
is_between low high d = lies_between low high (natural_of d)

-- each element is a word
abbrev pub all_words : Items → Bool
all_words no_items = true
all_words (item d ds) = is_between 0 4294967295 d && all_words ds

-- there are two elements, both words
abbrev pub are_two_words : Items → Bool
are_two_words ds = (count ds == 2) && all_words ds

-- there is an array, and its elements pass the test
abbrev pub in_array : (Items → Bool) → Option Items → Bool
in_array test None = false
in_array test (Some ds) = test ds

-- the element is what each has to be
abbrev pub fits_each : Each → Data → Bool
fits_each each.Pair d = in_array are_two_words (as_array d)
fits_each each.Table d = is_some (as_table d)
fits_each each.Text d = is_some (as_str d)
fits_each each.Line d = is_between 0 63 d

-- each element is what it has to be
abbrev pub all_fit : Each → Items → Bool
all_fit e no_items = true
all_fit e (item d ds) = fits_each e d && all_fit e ds

-- the elements are what they have to be, and there is one at least where that is asked
abbrev pub are_all : Each → Bool → Items → Bool
are_all e some ds = (not some || nat_lt 0 (count ds)) && all_fit e ds

-- the value is one of the words
abbrev pub is_choice : Choice → Option (List ℕ) → Bool
is_choice c None = false
is_choice c (Some text) = is_word c text

-- the value is a boolean, and true only where the secret may still be taken
abbrev pub may_own : Bool → Option Bool → Bool
may_own is_free None = false
may_own is_free (Some wanted) = not wanted || is_free

-- the value is the place of a thread, where the threads are an array
abbrev pub is_place : Option Items → Option ℕ → Bool
is_place threads None = false
is_place None (Some n) = true
is_place (Some ds) (Some n) = nat_lt n (count ds)

-- the value meets the rule, in a table behind others
unfoldable pub fits : Rule → Totals → Members → Data → Bool
fits (rule.Integer low high) t ms d = is_between low high d
fits rule.Text t ms d = is_some (as_str d)
fits rule.Flag t ms d = is_some (as_bool d)
fits (rule.Word c) t ms d = is_choice c (as_str d)
fits rule.Pair t ms d = in_array are_two_words (as_array d)
fits rule.Table t ms d = is_some (as_table d)
fits (rule.Array e some) t ms d = in_array (are_all e some) (as_array d)
fits rule.Owner t ms d = may_own t.secret_free (as_bool d)
fits rule.Server t ms d = is_place (option_and_then as_array (value_at key.Thread ms)) (natural_of d)

-- the element is a string that begins with `ring` and a space
abbrev pub rings : Option (List ℕ) → Bool
rings None = false
rings (Some text) = starts_with nat_eq text (codes "ring ")

-- how many elements are such strings
abbrev pub ring_words : Items → ℕ
ring_words no_items = 0
ring_words (item d ds) = (if rings (as_str d) then 1 else 0) + ring_words ds

-- the script has too many words, or too many for rings
abbrev pub is_long : Items → Bool
is_long ds = nat_lt 250000 (count ds) || nat_lt 10000 (ring_words ds)

-- the steps of a thread
abbrev pub steps_of : Members → ℕ
steps_of ms = integer_at 1 100000 10000 key.Steps ms

-- the list or sum at a key passes its limit, in a table behind others
unfoldable pub is_over : Limit → Key → Totals → Members → Bool
is_over limit.Free k t ms = false
is_over (limit.Items most) k t ms = nat_lt most (count (items_at k ms))
is_over limit.Script k t ms = is_long (items_at k ms)
is_over limit.Threads k t ms = nat_lt 16 (t.threads + count (items_at k ms))
is_over limit.Steps k t ms = nat_lt 250000 (t.steps + steps_of ms)
is_over limit.Rings k t ms = nat_lt 10000 (t.rings + count (items_at k ms))

-- the box takes the secret
abbrev pub owns : Members → Bool
owns ms = unwrap_or (flag_at key.Secret ms) false

-- what the tables say up to one more: whether the secret may be taken, and the sums so far
unfoldable pub after : Form → Members → Totals → Totals
after form.Board ms t = record t { secret_free = is_some (value_at key.Secret ms) }
after form.AtBox ms t = record t {
  secret_free = t.secret_free && not (owns ms);
  threads = number (t.threads + count (items_at key.Thread ms));
}
after form.Thread ms t = record t { steps = number (t.steps + steps_of ms) }
after form.Device ms t = record t { rings = number (t.rings + count (items_at key.Rings ms)) }
after _ ms t = t
