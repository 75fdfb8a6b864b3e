-- What the writes of each call come to, and what reads of the links give.
use Rattle.std.proofs.Common.{◌≡◌, ◌≢◌, ℕ, suc, ◌+◌, ◌<◌, ◌↔◌, false, Option, Some, None, IsSome, get_or, List, [], ◌∷◌, ◌++◌, length, map, drop, slice_get, slice_set, refl, sym, ap, ◌∙◌, subst, arith, inl, inr, ext_get_or, get_or-set_same, get_or-set_other}
use Rattle.std.proofs.lemmas.Bool.{cases_eq, false_from_ne_true}
use Rattle.std.proofs.lemmas.List.{length-map, length-set}
use Rattle.index_list.specs.Arena.{AreApart, AreOnce, ArenaView, has_node, list_at, list_with, without, without_first, without_node}
use Rattle.index_list.specs.Kept.{IsKept, lists_of, node_of}
use Rattle.index_list.proofs.Changes.{IsKept-put, IsKept-taken, around_owner, last_owner, without_at}
use Rattle.index_list.proofs.Lists.{without-absent, without-first}
use Rattle.index_list.proofs.Rings.{node_after, node_first}
use Rattle.index_list.proofs.Walks.{has_node-at, has_within, list_found, lists_is, owner_is}

-- an arena as contracts see it
abbrev pub arena_of : ℕ → List (List ℕ) → ArenaView
arena_of nodes lists = record { nodes = nodes; lists = lists }

-- what is kept of some lists is kept of those that the links determine
pub kept_again : (nodes : ℕ) (next prev : List ℕ) (owner : List (Option ℕ)) (lists : List (List ℕ)) →
    IsKept nodes next prev owner lists → IsKept nodes next prev owner (lists_of nodes next)
kept_again nodes next prev owner lists kept =
    subst (IsKept nodes next prev owner) (sym (lists_is nodes next prev owner lists kept)) kept

-- the five writes that put a node last in a list
pub put_by_writes : (nodes : ℕ) (next prev : List ℕ) (owner : List (Option ℕ)) (lists : List (List ℕ)) (list node last : ℕ) →
    IsKept nodes next prev owner lists → list < length lists → node < nodes → list_with lists node ≡ None →
    last ≡ get_or prev (nodes + list) 0 →
    IsKept nodes (slice_set (slice_set next last node) node (nodes + list))
    (slice_set (slice_set prev node last) (nodes + list) node) (slice_set owner node (Some list))
    (slice_set lists list (list_at lists list ++ node ∷ []))
put_by_writes nodes next prev owner lists list node last kept below within free last_is =
    let seat = nodes + list in
    let none : get_or owner node None ≡ None = owner_is nodes next prev owner lists node kept within ∙ free in
    let of_last = last_owner nodes next prev owner lists list kept below in
    let mine : get_or owner last None ≡ Some list = ap (λ k. get_or owner k None) last_is ∙ of_last.0 in
    let last_within : last < nodes + length lists = omega (arith, last_is, of_last.1) in
    let apart : last ≢ node = λ e. absurd (cc (e, mine, none)) in
    let inside : node ≢ seat = omega arith in
    let first_next = slice_set next last node in
    let first_prev = slice_set prev node last in
    let next_len : length first_next ≡ length next = length-set next last node in
    let prev_len : length first_prev ≡ length prev = length-set prev node last in
    IsKept-put nodes next prev owner (slice_set first_next node seat) (slice_set first_prev seat node)
    (slice_set owner node (Some list)) lists list node kept
    (record {
      links = record {
        after_last =
            ap (λ k. get_or (slice_set first_next node seat) k 0) (sym last_is)
            ∙ get_or-set_other first_next node last seat 0 apart
            ∙ get_or-set_same next last node 0 (omega (arith, kept.nexts));
        after_node = get_or-set_same first_next node seat 0 (omega (arith, next_len, kept.nexts));
        before_node =
            get_or-set_other first_prev seat node node 0 inside
            ∙ get_or-set_same prev node last 0 (omega (arith, kept.prevs))
            ∙ last_is;
        before_end = get_or-set_same first_prev seat node 0 (omega (arith, prev_len, kept.prevs));
        other_nexts = λ n not_last not_node.
            get_or-set_other first_next node n seat 0 not_node
            ∙ get_or-set_other next last n node 0 (λ e. not_last (e ∙ last_is));
        other_prevs = λ n not_node not_seat.
            get_or-set_other first_prev seat n node 0 not_seat ∙ get_or-set_other prev node n last 0 not_node;
      };
      nexts = length-set first_next node seat ∙ next_len;
      prevs = length-set first_prev seat node ∙ prev_len;
      owners = length-set owner node (Some list);
      its_list = get_or-set_same owner node (Some list) None (omega (arith, kept.owners));
      other_owners = λ n other. get_or-set_other owner node n (Some list) None other;
    }) below within free

-- the three writes that take a node out of its list
pub taken_by_writes : (nodes : ℕ) (next prev : List ℕ) (owner : List (Option ℕ)) (lists : List (List ℕ)) (node before after : ℕ) →
    IsKept nodes next prev owner lists → IsSome (list_with lists node) →
    before ≡ get_or prev node 0 → after ≡ get_or next node 0 →
    IsKept nodes (slice_set next before after) (slice_set prev after before) (slice_set owner node None)
    (map (without node) lists)
taken_by_writes nodes next prev owner lists node before after kept found before_is after_is =
    let it = list_found lists node found in
    let around = around_owner nodes next prev owner lists it.0 node kept it.1 in
    let within : node < nodes = (kept.owned it.0 node it.1).0 in
    IsKept-taken nodes next prev owner (slice_set next before after) (slice_set prev after before)
    (slice_set owner node None) lists it.0 node kept
    (record {
      links = record {
        after_before =
            ap (λ k. get_or (slice_set next before after) k 0) (sym before_is)
            ∙ get_or-set_same next before after 0 (omega (arith, kept.nexts, before_is, around.1)) ∙ after_is;
        before_after =
            ap (λ k. get_or (slice_set prev after before) k 0) (sym after_is)
            ∙ get_or-set_same prev after before 0 (omega (arith, kept.prevs, after_is, around.3)) ∙ before_is;
        other_nexts = λ n other. get_or-set_other next before n after 0 (λ e. other (e ∙ before_is));
        other_prevs = λ n other. get_or-set_other prev after n before 0 (λ e. other (e ∙ after_is));
      };
      nexts = length-set next before after;
      prevs = length-set prev after before;
      owners = length-set owner node None;
      no_list = get_or-set_same owner node None None (omega (arith, kept.owners));
      other_owners = λ n other. get_or-set_other owner node n None None other;
    }) it.1

-- a node that stands in a list is one of the nodes, and so is what its links lead to, or a seat
pub bounds : (nodes : ℕ) (next prev : List ℕ) (owner : List (Option ℕ)) (lists : List (List ℕ)) (node : ℕ) →
    IsKept nodes next prev owner lists → IsSome (list_with lists node) →
    (node < nodes) × (get_or prev node 0 < nodes + length lists) × (get_or next node 0 < nodes + length lists)
bounds nodes next prev owner lists node kept found =
    let it = list_found lists node found in
    let around = around_owner nodes next prev owner lists it.0 node kept it.1 in
    ((kept.owned it.0 node it.1).0, around.1, around.3)

-- the link of a list's seat leads to its first node
pub first_node : (nodes : ℕ) (next prev : List ℕ) (owner : List (Option ℕ)) (lists : List (List ℕ)) (list : ℕ) →
    IsKept nodes next prev owner lists → list < length lists →
    slice_get (list_at lists list) 0 ≡ node_of nodes (get_or next (nodes + list) 0)
first_node nodes next prev owner lists list kept below =
    node_first next prev nodes (nodes + list) (list_at lists list) (nodes + list) (kept.rings list below)
    (λ n has. (kept.owned list n has).0) (omega arith)

-- the link of a node leads to the one after it in its list
pub next_node : (nodes : ℕ) (next prev : List ℕ) (owner : List (Option ℕ)) (lists : List (List ℕ)) (list place node : ℕ) →
    IsKept nodes next prev owner lists → slice_get (list_at lists list) place ≡ Some node →
    slice_get (list_at lists list) (place + 1) ≡ node_of nodes (get_or next node 0)
next_node nodes next prev owner lists list place node kept at =
    let below = has_within lists list node (has_node-at (list_at lists list) place node at) in
    let one_more : place + 1 ≡ suc place = omega arith in
    ap (slice_get (list_at lists list)) one_more
    ∙ node_after next prev nodes (nodes + list) (list_at lists list) (nodes + list) place node (kept.rings list below)
    (λ n has. (kept.owned list n has).0) (omega arith) at

-- no first node is there exactly where there is none
pub none_where_empty : (nodes : List ℕ) (first : Option ℕ) → first ≡ slice_get nodes 0 → (first ≡ None) ↔ (nodes ≡ [])
none_where_empty [] first is = (λ _. refl, λ _. is)
none_where_empty (n ∷ nodes) first is = (λ none. absurd (cc), λ empty. absurd (cc))

first_and_rest : (nodes : List ℕ) (first : ℕ) → slice_get nodes 0 ≡ Some first → AreOnce nodes → without first nodes ≡ drop 1 nodes
first_and_rest [] first is once = refl
first_and_rest (n ∷ nodes) first is once =
    let same : n ≡ first = cc in
    ap (λ m. without m (n ∷ nodes)) (sym same) ∙ without-first n nodes once.0

-- an arena without the first node of a list
pub first_out : (arena : ArenaView) (list first : ℕ) → AreApart arena → list < length arena.lists →
    slice_get (list_at arena.lists list) 0 ≡ Some first → without_node arena first ≡ without_first arena list
first_out arena list first apart below is =
    let lists = arena.lists in
    let rest = drop 1 (list_at lists list) in
    let many : length (map (without first) lists) ≡ length lists = length-map lists (without first) in
    let as_many : length (map (without first) lists) ≡ length (slice_set lists list rest) =
    many ∙ sym (length-set lists list rest) in
    ap (arena_of arena.nodes) (ext_get_or [] (map (without first) lists) (slice_set lists list rest) as_many (λ l is_list.
    without_at first lists l
    ∙ elim (cases_eq l list) [
      | inl same ↦
          ap (λ k. without first (list_at lists k)) same
          ∙ first_and_rest (list_at lists list) first is (apart.once list)
          ∙ sym (get_or-set_same lists list rest [] below)
          ∙ ap (list_at (slice_set lists list rest)) (sym same)
      | inr other ↦
          let absent : has_node first (list_at lists l) ≡ false =
          false_from_ne_true (has_node first (list_at lists l)) (λ has.
          other (apart.one_list l list first has (has_node-at (list_at lists list) 0 first is))) in
          without-absent first (list_at lists l) absent ∙ sym (get_or-set_other lists list l rest [] other)
    ]))
