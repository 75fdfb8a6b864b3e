-- Which nodes stand in no list after a call.
use Rattle.std.proofs.Common.{◌≡◌, ◌≢◌, ℕ, ◌<◌, false, None, eqb, List, [], ◌∷◌, ◌++◌, length, map, drop, slice_set, refl, ap, ◌∙◌, arith, inl, inr, get_or-set_same, get_or-set_other}
use Rattle.std.proofs.lemmas.Bool.{cases_eq, ne_eqb, or_from, or_parts}
use Rattle.std.proofs.lemmas.List.{length-set}
use Rattle.index_list.specs.Arena.{has_node, list_at, list_with, without}
use Rattle.index_list.proofs.Changes.{without_at}
use Rattle.index_list.proofs.Lists.{has_node-last, has_node-without_same}
use Rattle.index_list.proofs.Walks.{list_with-none, none_has}

-- a node that was taken out stands in no list
pub taken_alone : (lists : List (List ℕ)) (node : ℕ) → list_with (map (without node) lists) node ≡ None
taken_alone lists node =
    list_with-none (map (without node) lists) node (λ list below.
    ap (has_node node) (without_at node lists list) ∙ has_node-without_same node (list_at lists list))

-- a node that stands in no list stands in none once a list has other nodes, if it isn't one of them
pub set_alone : (lists : List (List ℕ)) (list node : ℕ) (nodes : List ℕ) → list_with lists node ≡ None →
    has_node node nodes ≡ false → list_with (slice_set lists list nodes) node ≡ None
set_alone lists list node nodes alone absent =
    list_with-none (slice_set lists list nodes) node (λ l below.
    elim (cases_eq l list) [
      | inl same ↦
          let within : list < length lists = omega (arith, same, length-set lists list nodes) in
          ap (λ k. has_node node (list_at (slice_set lists list nodes) k)) same
          ∙ ap (has_node node) (get_or-set_same lists list nodes [] within) ∙ absent
      | inr other ↦
          ap (has_node node) (get_or-set_other lists list l nodes [] other) ∙ none_has lists node l alone
    ])

-- so where another node is put last in a list
pub last_alone : (lists : List (List ℕ)) (list node other : ℕ) → list_with lists node ≡ None → node ≢ other →
    list_with (slice_set lists list (list_at lists list ++ other ∷ [])) node ≡ None
last_alone lists list node other alone apart =
    set_alone lists list node (list_at lists list ++ other ∷ []) alone
    (has_node-last node other (list_at lists list)
    ∙ or_from (has_node node (list_at lists list)) (eqb node other) (none_has lists node list alone) (ne_eqb node other apart))

rest_absent : (node : ℕ) (nodes : List ℕ) → has_node node nodes ≡ false → has_node node (drop 1 nodes) ≡ false
rest_absent node [] absent = refl
rest_absent node (n ∷ nodes) absent = (or_parts (eqb node n) (has_node node nodes) absent).1

-- and where the first node of a list is taken out
pub rest_alone : (lists : List (List ℕ)) (list node : ℕ) → list_with lists node ≡ None →
    list_with (slice_set lists list (drop 1 (list_at lists list))) node ≡ None
rest_alone lists list node alone =
    set_alone lists list node (drop 1 (list_at lists list)) alone
    (rest_absent node (list_at lists list) (none_has lists node list alone))
