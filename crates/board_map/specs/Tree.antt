-- What a table of the document holds at a key, by type.
use Rattle.std.specs.Prelude.{ℕ, suc, ℤ, pos, negsuc, Bool, ◌&&◌, if◌then◌else◌, nat_le, List, Option, Some, None, option_and_then}
use Rattle.flat_model.specs.declared.refusals.Key.{Key}
use Rattle.toml.specs.Data.{Data, Items, no_items, item, Members, get_member, get_item, as_integer, as_array, as_table, as_str, as_bool}
use Rattle.board_map.specs.Keys.{key_name}

-- the value at a key
abbrev pub value_at : Key → Members → Option Data
value_at k ms = get_member (key_name k) ms

-- the number of an integer that is not negative
abbrev pub natural_number : ℤ → Option ℕ
natural_number (pos n) = Some n
natural_number (negsuc n) = None

-- the number that a value is
abbrev pub natural_of : Data → Option ℕ
natural_of d = option_and_then natural_number (as_integer d)

-- how many elements there are
abbrev pub count : Items → ℕ
count no_items = 0
count (item d ds) = suc (count ds)

-- the elements of an array; none where the value is no array or not there
abbrev pub items_or_none : Option Items → Items
items_or_none None = no_items
items_or_none (Some ds) = ds

-- the elements of the array at a key
abbrev pub items_at : Key → Members → Items
items_at k ms = items_or_none (option_and_then as_array (value_at k ms))

-- the table at a key
abbrev pub table_at : Key → Members → Option Members
table_at k ms = option_and_then as_table (value_at k ms)

-- the text at a key
abbrev pub text_at : Key → Members → Option (List ℕ)
text_at k ms = option_and_then as_str (value_at k ms)

-- the boolean at a key
abbrev pub flag_at : Key → Members → Option Bool
flag_at k ms = option_and_then as_bool (value_at k ms)

-- the number, where it is from low to high, or else the default
abbrev pub bounded : ℕ → ℕ → ℕ → Option ℕ → ℕ
bounded low high default None = default
bounded low high default (Some n) = if nat_le low n && nat_le n high then n else default

-- the integer from low to high at a key, or the default
abbrev pub integer_at : ℕ → ℕ → ℕ → Key → Members → ℕ
integer_at low high default k ms = bounded low high default (option_and_then natural_of (value_at k ms))

-- the word at a place of an array, or 0
abbrev pub word_item : ℕ → Items → ℕ
word_item i ds = bounded 0 4294967295 0 (option_and_then natural_of (get_item i ds))
