-- Rings of links: what stays of one, one more node in it, and one fewer.
use Rattle.std.proofs.Common.{◌≡◌, ◌≢◌, ℕ, zero, suc, ◌+◌, ◌<◌, ◌≤◌, true, false, ◌⊎◌, cond, eqb, Some, None, get_or, List, [], ◌∷◌, ◌++◌, length, slice_get, refl, sym, ap, ◌∙◌, subst, arith, inl, inr}
use Rattle.std.proofs.lemmas.Bool.{cases_Bool, or_cases, or_left, or_parts, or_right, eqb-true, eqb-false, eq-eqb, ne_eqb, le-ltb, lt-ltb}
use Rattle.index_list.specs.Arena.{AreOnce, has_node, without}
use Rattle.index_list.specs.Kept.{AreLinked, node_of, walk}
use Rattle.index_list.proofs.Lists.{without-first, without-later}

-- one of two nodes is in a list and the other isn't, so they differ
pub apart_from : (a b : ℕ) (nodes : List ℕ) → has_node a nodes ≡ true → has_node b nodes ≡ false → a ≢ b
apart_from a b nodes has hasnt same = absurd (cc (ap (λ n. has_node n nodes) same))

-- links stay where they aren't written
pub AreLinked-same : (next prev next' prev' : List ℕ) (from : ℕ) (nodes : List ℕ) (to : ℕ) →
    AreLinked next prev from nodes to →
    get_or next' from 0 ≡ get_or next from 0 → get_or prev' to 0 ≡ get_or prev to 0 →
    ((n : ℕ) → has_node n nodes ≡ true → (get_or next' n 0 ≡ get_or next n 0) × (get_or prev' n 0 ≡ get_or prev n 0)) →
    AreLinked next' prev' from nodes to
AreLinked-same next prev next' prev' from [] to linked first last each = (first ∙ linked.0, last ∙ linked.1)
AreLinked-same next prev next' prev' from (node ∷ nodes) to linked first last each =
    let here = each node (or_left (eqb node node) (has_node node nodes) (eq-eqb node node refl)) in (
      first ∙ linked.0,
      here.1 ∙ linked.1,
      AreLinked-same next prev next' prev' node nodes to linked.2 here.0 last
          (λ n has. each n (or_right (eqb n node) (has_node n nodes) has)),
    )

-- what comes before the end is the last node, or the start
pub last_of : (next prev : List ℕ) (from : ℕ) (nodes : List ℕ) (to : ℕ) → AreLinked next prev from nodes to →
    (get_or prev to 0 ≡ from) ⊎ (has_node (get_or prev to 0) nodes ≡ true)
last_of next prev from [] to linked = inl linked.1
last_of next prev from (node ∷ nodes) to linked =
    let last = get_or prev to 0 in
    inr (elim (last_of next prev node nodes to linked.2) [
      | inl same ↦ or_left (eqb last node) (has_node last nodes) (eq-eqb last node same)
      | inr has ↦ or_right (eqb last node) (has_node last nodes) has
    ])

-- what comes after the start is the first node, or the end
pub first_of : (next prev : List ℕ) (from : ℕ) (nodes : List ℕ) (to : ℕ) → AreLinked next prev from nodes to →
    (get_or next from 0 ≡ to) ⊎ (has_node (get_or next from 0) nodes ≡ true)
first_of next prev from [] to linked = inl linked.0
first_of next prev from (node ∷ nodes) to linked =
    let first = get_or next from 0 in inr (or_left (eqb first node) (has_node first nodes) (eq-eqb first node linked.0))

-- what comes before a node is another one, or the start
pub before_in : (next prev : List ℕ) (from : ℕ) (nodes : List ℕ) (to n : ℕ) → AreLinked next prev from nodes to →
    has_node n nodes ≡ true → (get_or prev n 0 ≡ from) ⊎ (has_node (get_or prev n 0) nodes ≡ true)
before_in next prev from [] to n linked has = absurd (cc)
before_in next prev from (node ∷ nodes) to n linked has =
    let before = get_or prev n 0 in
    elim (or_cases (eqb n node) (has_node n nodes) has) [
      | inl same ↦ inl (ap (λ m. get_or prev m 0) (eqb-true n node same) ∙ linked.1)
      | inr later ↦
          inr (elim (before_in next prev node nodes to n linked.2 later) [
            | inl at ↦ or_left (eqb before node) (has_node before nodes) (eq-eqb before node at)
            | inr is ↦ or_right (eqb before node) (has_node before nodes) is
          ])
    ]

-- what comes after a node is a later one, or the end
pub after_in : (next prev : List ℕ) (from : ℕ) (nodes : List ℕ) (to n : ℕ) → AreLinked next prev from nodes to →
    has_node n nodes ≡ true → (get_or next n 0 ≡ to) ⊎ (has_node (get_or next n 0) nodes ≡ true)
after_in next prev from [] to n linked has = absurd (cc)
after_in next prev from (node ∷ nodes) to n linked has =
    let after = get_or next n 0 in
    let deeper : (has_node after nodes ≡ true) → has_node after (node ∷ nodes) ≡ true =
    λ is. or_right (eqb after node) (has_node after nodes) is in
    elim (or_cases (eqb n node) (has_node n nodes) has) [
      | inl same ↦
          let here : get_or next n 0 ≡ get_or next node 0 = ap (λ m. get_or next m 0) (eqb-true n node same) in
          elim (first_of next prev node nodes to linked.2) [
            | inl at ↦ inl (here ∙ at)
            | inr is ↦ inr (deeper (ap (λ m. has_node m nodes) here ∙ is))
          ]
      | inr later ↦
          elim (after_in next prev node nodes to n linked.2 later) [
            | inl at ↦ inl at
            | inr is ↦ inr (deeper is)
          ]
    ]

-- the links once a node stands last, after the one that stood last
pub record IsLast (next prev next' prev' : List ℕ) (to node : ℕ) : Type 0 where
  pub after_last : get_or next' (get_or prev to 0) 0 ≡ node
  pub after_node : get_or next' node 0 ≡ to
  pub before_node : get_or prev' node 0 ≡ get_or prev to 0
  pub before_end : get_or prev' to 0 ≡ node
  pub other_nexts : (n : ℕ) → n ≢ get_or prev to 0 → n ≢ node → get_or next' n 0 ≡ get_or next n 0
  pub other_prevs : (n : ℕ) → n ≢ node → n ≢ to → get_or prev' n 0 ≡ get_or prev n 0

-- a ring with one more node, last
pub AreLinked-last : (next prev next' prev' : List ℕ) (from : ℕ) (nodes : List ℕ) (to node : ℕ) →
    IsLast next prev next' prev' to node → AreLinked next prev from nodes to →
    from ≢ node → has_node node nodes ≡ false → has_node from nodes ≡ false → has_node to nodes ≡ false →
    AreOnce nodes → AreLinked next' prev' from (nodes ++ node ∷ []) to
AreLinked-last next prev next' prev' from [] to node written linked from_apart absent from_absent to_absent once = (
  ap (λ n. get_or next' n 0) (sym linked.1) ∙ written.after_last,
  written.before_node ∙ linked.1,
  (written.after_node, written.before_end),
)
AreLinked-last next prev next' prev' from (n ∷ nodes) to node written linked from_apart absent from_absent to_absent once =
    let last = get_or prev to 0 in
    let has_last : has_node last (n ∷ nodes) ≡ true =
    elim (last_of next prev n nodes to linked.2) [
      | inl same ↦ or_left (eqb last n) (has_node last nodes) (eq-eqb last n same)
      | inr has ↦ or_right (eqb last n) (has_node last nodes) has
    ] in
    let not_last : from ≢ last = λ same. apart_from last from (n ∷ nodes) has_last from_absent (sym same) in
    let not_node = or_parts (eqb node n) (has_node node nodes) absent in
    let not_end = or_parts (eqb to n) (has_node to nodes) to_absent in
    let n_apart : n ≢ node = λ same. eqb-false node n not_node.0 (sym same) in
    let n_inside : n ≢ to = λ same. eqb-false to n not_end.0 (sym same) in (
      written.other_nexts from not_last from_apart ∙ linked.0,
      written.other_prevs n n_apart n_inside ∙ linked.1,
      AreLinked-last next prev next' prev' n nodes to node written linked.2 n_apart not_node.1 once.0 not_end.1 once.1,
    )

-- the links once a node is taken out from between two
pub record IsOut (next prev next' prev' : List ℕ) (node : ℕ) : Type 0 where
  pub after_before : get_or next' (get_or prev node 0) 0 ≡ get_or next node 0
  pub before_after : get_or prev' (get_or next node 0) 0 ≡ get_or prev node 0
  pub other_nexts : (n : ℕ) → n ≢ get_or prev node 0 → get_or next' n 0 ≡ get_or next n 0
  pub other_prevs : (n : ℕ) → n ≢ get_or next node 0 → get_or prev' n 0 ≡ get_or prev n 0

-- the rest of a ring whose first node is taken out
AreLinked-rest : (next prev next' prev' : List ℕ) (from node : ℕ) (nodes : List ℕ) (to : ℕ) →
    IsOut next prev next' prev' node → get_or prev node 0 ≡ from → AreLinked next prev node nodes to →
    has_node from nodes ≡ false → has_node to nodes ≡ false → AreOnce nodes → AreLinked next' prev' from nodes to
AreLinked-rest next prev next' prev' from node [] to out before linked from_absent to_absent once = (
  ap (λ n. get_or next' n 0) (sym before) ∙ out.after_before ∙ linked.0,
  ap (λ n. get_or prev' n 0) (sym linked.0) ∙ out.before_after ∙ before,
)
AreLinked-rest next prev next' prev' from node (n ∷ nodes) to out before linked from_absent to_absent once =
    let not_from = or_parts (eqb from n) (has_node from nodes) from_absent in
    let not_end = or_parts (eqb to n) (has_node to nodes) to_absent in
    let first : get_or next node 0 ≡ n = linked.0 in (
      ap (λ m. get_or next' m 0) (sym before) ∙ out.after_before ∙ first,
      ap (λ m. get_or prev' m 0) (sym first) ∙ out.before_after ∙ before,
      AreLinked-same next prev next' prev' n nodes to linked.2
          (out.other_nexts n (λ same. eqb-false from n not_from.0 (sym (same ∙ before))))
          (out.other_prevs to (λ same. eqb-false to n not_end.0 (same ∙ first)))
          (λ m has. (
            out.other_nexts m (λ same. apart_from m from nodes has not_from.1 (same ∙ before)),
            out.other_prevs m (λ same. apart_from m n nodes has once.0 (same ∙ first)),
          )),
    )

-- a ring without one of its nodes
pub AreLinked-without : (next prev next' prev' : List ℕ) (from : ℕ) (nodes : List ℕ) (to node : ℕ) →
    IsOut next prev next' prev' node → AreLinked next prev from nodes to → has_node node nodes ≡ true →
    has_node from nodes ≡ false → has_node to nodes ≡ false → AreOnce nodes →
    AreLinked next' prev' from (without node nodes) to
AreLinked-without next prev next' prev' from [] to node out linked has from_absent to_absent once = absurd (cc)
AreLinked-without next prev next' prev' from (m ∷ nodes) to node out linked has from_absent to_absent once =
    let not_from = or_parts (eqb from m) (has_node from nodes) from_absent in
    let not_end = or_parts (eqb to m) (has_node to nodes) to_absent in
    let before = get_or prev node 0 in
    let after = get_or next node 0 in
    elim (cases_Bool (eqb node m)) [
      | inl same ↦
          let here : node ≡ m = eqb-true node m same in
          let absent : has_node node nodes ≡ false = ap (λ n. has_node n nodes) here ∙ once.0 in
          subst (λ (ns : List ℕ). AreLinked next' prev' from ns to)
          (sym (ap (λ n. without node (n ∷ nodes)) (sym here) ∙ without-first node nodes absent))
          (AreLinked-rest next prev next' prev' from node nodes to out (ap (λ n. get_or prev n 0) here ∙ linked.1)
          (subst (λ n. AreLinked next prev n nodes to) (sym here) linked.2) not_from.1 not_end.1 once.1)
      | inr apart ↦
          let later : has_node node nodes ≡ true =
          elim (or_cases (eqb node m) (has_node node nodes) has) [ inl same ↦ absurd (cc) | inr is ↦ is ] in
          let from_apart : from ≢ before =
          elim (before_in next prev m nodes to node linked.2 later) [
            | inl at ↦ λ same. eqb-false from m not_from.0 (same ∙ at)
            | inr is ↦ λ same. apart_from before from nodes is not_from.1 (sym same)
          ] in
          let m_apart : m ≢ after =
          elim (after_in next prev m nodes to node linked.2 later) [
            | inl at ↦ λ same. eqb-false to m not_end.0 (sym (same ∙ at))
            | inr is ↦ λ same. apart_from after m nodes is once.0 (sym same)
          ] in
          subst (λ (ns : List ℕ). AreLinked next' prev' from ns to) (sym (without-later node m nodes apart)) (
            out.other_nexts from from_apart ∙ linked.0,
            out.other_prevs m m_apart ∙ linked.1,
            AreLinked-without next prev next' prev' m nodes to node out linked.2 later once.0 not_end.1 once.1,
          )
    ]

-- a walk round a ring meets its nodes
pub walk_is : (next prev : List ℕ) (most from : ℕ) (nodes : List ℕ) (to : ℕ) → AreLinked next prev from nodes to →
    has_node to nodes ≡ false → length nodes ≤ most → walk most next to (get_or next from 0) ≡ nodes
walk_is next prev zero from [] to linked absent short = refl
walk_is next prev (suc most) from [] to linked absent short =
    let at = get_or next from 0 in
    ap (λ b. cond b [] (at ∷ walk most next to (get_or next at 0))) (eq-eqb at to linked.0)
walk_is next prev zero from (n ∷ nodes) to linked absent short = absurd (omega arith)
walk_is next prev (suc most) from (n ∷ nodes) to linked absent short =
    let parts = or_parts (eqb to n) (has_node to nodes) absent in
    let apart : eqb n to ≡ false = ne_eqb n to (λ same. eqb-false to n parts.0 (sym same)) in
    ap (λ at. walk (suc most) next to at) linked.0
    ∙ ap (λ b. cond b [] (n ∷ walk most next to (get_or next n 0))) apart
    ∙ ap (λ ns. n ∷ ns) (walk_is next prev most n nodes to linked.2 parts.1 (omega arith))

-- what the link of the start leads to is the first node, or none
pub node_first : (next prev : List ℕ) (count from : ℕ) (nodes : List ℕ) (to : ℕ) → AreLinked next prev from nodes to →
    ((n : ℕ) → has_node n nodes ≡ true → n < count) → count ≤ to →
    slice_get nodes 0 ≡ node_of count (get_or next from 0)
node_first next prev count from [] to linked within past =
    sym (ap (λ b. cond b (Some (get_or next from 0)) None) (le-ltb (get_or next from 0) count (omega (arith, linked.0))))
node_first next prev count from (n ∷ nodes) to linked within past =
    let below : n < count = within n (or_left (eqb n n) (has_node n nodes) (eq-eqb n n refl)) in
    sym (ap (node_of count) linked.0 ∙ ap (λ b. cond b (Some n) None) (lt-ltb n count below))

-- what the link of a node leads to is the one after it, or none
pub node_after : (next prev : List ℕ) (count from : ℕ) (nodes : List ℕ) (to place n : ℕ) →
    AreLinked next prev from nodes to → ((n : ℕ) → has_node n nodes ≡ true → n < count) → count ≤ to →
    slice_get nodes place ≡ Some n → slice_get nodes (suc place) ≡ node_of count (get_or next n 0)
node_after next prev count from [] to place n linked within past at = absurd (cc)
node_after next prev count from (m ∷ nodes) to zero n linked within past at =
    let same : m ≡ n = cc in
    node_first next prev count m nodes to linked.2 (λ k has. within k (or_right (eqb k m) (has_node k nodes) has)) past
    ∙ ap (λ k. node_of count (get_or next k 0)) same
node_after next prev count from (m ∷ nodes) to (suc place) n linked within past at =
    node_after next prev count m nodes to place n linked.2
    (λ k has. within k (or_right (eqb k m) (has_node k nodes) has)) past at
