-- Arrays and tables of the document beside the lists and maps that hold them.
use Rattle.std.proofs.Common.{◌≡◌, ℕ, suc, ◌<◌, ◌≤◌, List, [], ◌∷◌, length, Some, not, ◌||◌, String, BTreeMap, Global, string_bytes, get_or, option_and_then, refl, ap, sym, ◌∙◌}
use Rattle.toml.specs.declared.value.Value.{Value}
use Rattle.std.specs.List.{list_any}
use Rattle.std.specs.Map.{keys_of}
use Rattle.std.specs.BTreeMap.{keys}
use Rattle.toml.specs.View.{items_view, members_view, table_view, view}
use Rattle.board_map.specs.declared.rows.Row.{Row}
use Rattle.board_map.specs.Shape.{has_unknown, is_known}
use Rattle.toml.proofs.Views.{get_item_within, get_item_past}
use Rattle.board_map.specs.Tree.{bounded, count, natural_of, word_item}

-- an array has as many elements as the vector
pub count_of_items : (vs : List Value) → count (items_view vs) ≡ length vs
count_of_items [] = refl
count_of_items (v ∷ vs) = ap suc (count_of_items vs)

-- the word at a place within
pub word_item_within : (vs : List Value) (i : ℕ) (v : Value) → i < length vs → v ≡ get_or vs i v → word_item i (items_view vs) ≡ bounded 0 4294967295 0 (natural_of (view v))
word_item_within vs i v within same =
    ap (λ o. bounded 0 4294967295 0 (option_and_then natural_of o)) (sym (get_item_within vs i v within) ∙ ap (λ w. Some (view w)) (sym same))

-- the word at a place past the end
pub word_item_past : (vs : List Value) (i : ℕ) → length vs ≤ i → word_item i (items_view vs) ≡ 0
word_item_past vs i past = ap (λ o. bounded 0 4294967295 0 (option_and_then natural_of o)) (sym (get_item_past vs i past))

unknown_by_keys : (rows : List Row) (es : List (String Global × Value)) → has_unknown rows (members_view es) ≡ list_any (λ name. not (is_known rows (string_bytes name))) (keys_of es)
unknown_by_keys rows [] = refl
unknown_by_keys rows (e ∷ es) = ap (λ rest. not (is_known rows (string_bytes e.0)) || rest) (unknown_by_keys rows es)

-- a table has an unknown key exactly where the map has one
pub has_unknown_by_keys : (rows : List Row) (t : BTreeMap (String Global) Value) → has_unknown rows (table_view t) ≡ list_any (λ name. not (is_known rows (string_bytes name))) (keys t)
has_unknown_by_keys rows t = unknown_by_keys rows t.entries
