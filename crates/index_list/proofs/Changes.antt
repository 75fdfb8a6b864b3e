-- What an arena keeps once it is made, once a node is put last in a list, and once one is taken out.
use Rattle.std.proofs.Common.{◌≡◌, ◌≢◌, ℕ, zero, suc, ◌+◌, ◌^◌, ◌<◌, true, false, ◌||◌, ◌⊎◌, Option, Some, None, eqb, get_or, List, [], ◌∷◌, ◌++◌, length, map, replicate, slice_set, refl, sym, ap, ◌∙◌, subst, arith, inl, inr, get_or-set_same, get_or-set_other}
use Rattle.std.proofs.lemmas.Bool.{cases_eq, cases_lt, false_from_ne_true, false≢true, eq-eqb, eqb-true, or_cases, or_left, or_right}
use Rattle.std.proofs.lemmas.List.{get_or-replicate, get_or_past, length-map, length-replicate, length-set}
use Rattle.index_list.specs.Arena.{AreOnce, has_node, list_at, list_with, without}
use Rattle.index_list.specs.Kept.{AreLinked, IsKept}
use Rattle.index_list.proofs.Lists.{AreOnce-last, AreOnce-without, has_node-last, has_node-without_other, has_node-without_same, without-absent}
use Rattle.index_list.proofs.Rings.{AreLinked-last, AreLinked-same, AreLinked-without, IsLast, IsOut, after_in, before_in, last_of}
use Rattle.index_list.proofs.Walks.{has_within, owner_is, seat_absent}

empty_at : (lists list : ℕ) → list_at (replicate lists []) list ≡ []
empty_at lists list =
    elim (cases_lt list lists) [
      | inl below ↦ get_or-replicate lists list [] [] below
      | inr past ↦ get_or_past (replicate lists []) list [] (omega (arith, length-replicate {A = List ℕ} lists []))
    ]

none_has : (lists list node : ℕ) → has_node node (list_at (replicate lists []) list) ≡ true → ⊥
none_has lists list node has = false≢true (sym (ap (has_node node) (empty_at lists list)) ∙ has)

-- an arena whose places all lead to themselves, with an owner for each seat alone
pub record IsFresh (nodes lists : ℕ) (next prev : List ℕ) (owner : List (Option ℕ)) : Type 0 where
  pub few_nodes : nodes < 2 ^ 32
  pub few_lists : lists < 2 ^ 32
  pub nexts : length next ≡ nodes + lists
  pub prevs : length prev ≡ nodes + lists
  pub owners : length owner ≡ nodes + lists
  pub next_itself : (k : ℕ) → k < nodes + lists → get_or next k 0 ≡ k
  pub prev_itself : (k : ℕ) → k < nodes + lists → get_or prev k 0 ≡ k
  pub free : (k : ℕ) → k < nodes → get_or owner k None ≡ None
  pub seated : (list : ℕ) → list < lists → get_or owner (nodes + list) None ≡ Some list

-- all its lists are empty
pub IsKept-fresh : (nodes lists : ℕ) (next prev : List ℕ) (owner : List (Option ℕ)) → IsFresh nodes lists next prev owner →
    IsKept nodes next prev owner (replicate lists [])
IsKept-fresh nodes lists next prev owner fresh =
    let many : length (replicate {A = List ℕ} lists []) ≡ lists = length-replicate lists [] in
    record {
      few_nodes = fresh.few_nodes;
      few_lists = omega (arith, many, fresh.few_lists);
      nexts = omega (arith, many, fresh.nexts);
      prevs = omega (arith, many, fresh.prevs);
      owners = omega (arith, many, fresh.owners);
      seats = λ list below. fresh.seated list (omega (arith, many));
      rings = λ list below.
          let seat = nodes + list in
          let within : seat < nodes + lists = omega (arith, many) in
          subst (λ (ns : List ℕ). AreLinked next prev seat ns seat) (sym (empty_at lists list))
          (fresh.next_itself seat within, fresh.prev_itself seat within);
      once = λ list. subst AreOnce (sym (empty_at lists list)) tt;
      owned = λ list node has. absurd (none_has lists list node has);
      stands = λ list node below is. absurd (cc (is, fresh.free node below));
    }

-- the links and owners once a node is last in a list
pub record IsPut (nodes : ℕ) (next prev : List ℕ) (owner : List (Option ℕ)) (next' prev' : List ℕ) (owner' : List (Option ℕ)) (list node : ℕ) : Type 0 where
  pub links : IsLast next prev next' prev' (nodes + list) node
  pub nexts : length next' ≡ length next
  pub prevs : length prev' ≡ length prev
  pub owners : length owner' ≡ length owner
  pub its_list : get_or owner' node None ≡ Some list
  pub other_owners : (n : ℕ) → n ≢ node → get_or owner' n None ≡ get_or owner n None

-- a node that stands in no list has no owner, and no list has it
free_absent : (nodes : ℕ) (next prev : List ℕ) (owner : List (Option ℕ)) (lists : List (List ℕ)) (node list : ℕ) →
    IsKept nodes next prev owner lists → node < nodes → list_with lists node ≡ None →
    has_node node (list_at lists list) ≡ false
free_absent nodes next prev owner lists node list kept within free =
    let none : get_or owner node None ≡ None = owner_is nodes next prev owner lists node kept within ∙ free in
    false_from_ne_true (has_node node (list_at lists list)) (λ has. absurd (cc (none, (kept.owned list node has).1)))

-- what stands last in a list, or else its seat, belongs to the list
pub last_owner : (nodes : ℕ) (next prev : List ℕ) (owner : List (Option ℕ)) (lists : List (List ℕ)) (list : ℕ) →
    IsKept nodes next prev owner lists → list < length lists →
    (get_or owner (get_or prev (nodes + list) 0) None ≡ Some list) × (get_or prev (nodes + list) 0 < nodes + length lists)
last_owner nodes next prev owner lists list kept below =
    let seat = nodes + list in
    let last = get_or prev seat 0 in
    elim (last_of next prev seat (list_at lists list) seat (kept.rings list below)) [
      | inl same ↦ (ap (λ k. get_or owner k None) same ∙ kept.seats list below, omega arith)
      | inr has ↦ let it = kept.owned list last has in (it.1, omega (arith, it.0))
    ]

-- a list that isn't written keeps its ring
other_ring : (nodes : ℕ) (next prev next' prev' : List ℕ) (owner : List (Option ℕ)) (lists : List (List ℕ)) (list : ℕ) →
    IsKept nodes next prev owner lists → list < length lists →
    ((n : ℕ) → get_or owner n None ≡ Some list → (get_or next' n 0 ≡ get_or next n 0) × (get_or prev' n 0 ≡ get_or prev n 0)) →
    AreLinked next' prev' (nodes + list) (list_at lists list) (nodes + list)
other_ring nodes next prev next' prev' owner lists list kept below same =
    let seat = nodes + list in
    let here = same seat (kept.seats list below) in
    AreLinked-same next prev next' prev' seat (list_at lists list) seat (kept.rings list below) here.0 here.1
    (λ n has. same n (kept.owned list n has).1)

-- an arena keeps its lists once a node is last in one
pub IsKept-put : (nodes : ℕ) (next prev : List ℕ) (owner : List (Option ℕ)) (next' prev' : List ℕ) (owner' : List (Option ℕ)) (lists : List (List ℕ)) (list node : ℕ) →
    IsKept nodes next prev owner lists → IsPut nodes next prev owner next' prev' owner' list node →
    list < length lists → node < nodes → list_with lists node ≡ None →
    IsKept nodes next' prev' owner' (slice_set lists list (list_at lists list ++ node ∷ []))
IsKept-put nodes next prev owner next' prev' owner' lists list node kept put below within free =
    let seat = nodes + list in
    let xs = list_at lists list in
    let lists' = slice_set lists list (xs ++ node ∷ []) in
    let many : length lists' ≡ length lists = length-set lists list (xs ++ node ∷ []) in
    let at_list : list_at lists' list ≡ xs ++ node ∷ [] = get_or-set_same lists list (xs ++ node ∷ []) [] below in
    let at_other : (l : ℕ) → l ≢ list → list_at lists' l ≡ list_at lists l =
    λ l other. get_or-set_other lists list l (xs ++ node ∷ []) [] other in
    let absent = λ (l : ℕ). free_absent nodes next prev owner lists node l kept within free in
    let none : get_or owner node None ≡ None = owner_is nodes next prev owner lists node kept within ∙ free in
    let last = last_owner nodes next prev owner lists list kept below in
    record {
      few_nodes = kept.few_nodes;
      few_lists = omega (arith, many, kept.few_lists);
      nexts = omega (arith, many, put.nexts, kept.nexts);
      prevs = omega (arith, many, put.prevs, kept.prevs);
      owners = omega (arith, many, put.owners, kept.owners);
      seats = λ l is_list. put.other_owners (nodes + l) (omega arith) ∙ kept.seats l (omega (arith, many));
      rings = λ l is_list.
          elim (cases_eq l list) [
            | inl same ↦
                subst (λ k. AreLinked next' prev' (nodes + k) (list_at lists' k) (nodes + k)) (sym same)
                (subst (λ (ns : List ℕ). AreLinked next' prev' seat ns seat) (sym at_list)
                (AreLinked-last next prev next' prev' seat xs seat node put.links (kept.rings list below) (omega arith) (absent list)
                (seat_absent nodes next prev owner lists seat list kept (omega arith))
                (seat_absent nodes next prev owner lists seat list kept (omega arith)) (kept.once list)))
            | inr other ↦
                subst (λ (ns : List ℕ). AreLinked next' prev' (nodes + l) ns (nodes + l)) (sym (at_other l other))
                (other_ring nodes next prev next' prev' owner lists l kept (omega (arith, many)) (λ n is.
                let not_node : n ≢ node = λ e. absurd (cc (e, is, none)) in
                let not_last : n ≢ get_or prev seat 0 =
                λ e. other (let it : l ≡ list = cc (e, is, last.0) in it) in
                let not_seat : n ≢ seat =
                λ e. other (let it : l ≡ list = cc (e, is, kept.seats list below) in it) in
                (put.links.other_nexts n not_last not_node, put.links.other_prevs n not_node not_seat)))
          ];
      once = λ l.
          elim (cases_eq l list) [
            | inl same ↦
                subst (λ k. AreOnce (list_at lists' k)) (sym same)
                (subst AreOnce (sym at_list) (AreOnce-last xs node (kept.once list) (absent list)))
            | inr other ↦ subst AreOnce (sym (at_other l other)) (kept.once l)
          ];
      owned = λ l n has.
          elim (cases_eq l list) [
            | inl same ↦
                let has' : (has_node n xs || eqb n node) ≡ true =
                sym (has_node-last n node xs) ∙ ap (has_node n) (sym at_list) ∙ ap (λ k. has_node n (list_at lists' k)) (sym same) ∙ has in
                elim (or_cases (has_node n xs) (eqb n node) has') [
                  | inl old ↦
                      let it = kept.owned list n old in
                      let not_node : n ≢ node = λ e. absurd (cc (e, it.1, none)) in
                      (it.0, put.other_owners n not_node ∙ it.1 ∙ ap Some (sym same))
                  | inr new ↦
                      let is = eqb-true n node new in
                      (omega (arith, is), ap (λ k. get_or owner' k None) is ∙ put.its_list ∙ ap Some (sym same))
                ]
            | inr other ↦
                let it = kept.owned l n (ap (has_node n) (sym (at_other l other)) ∙ has) in
                let not_node : n ≢ node = λ e. absurd (cc (e, it.1, none)) in
                (it.0, put.other_owners n not_node ∙ it.1)
          ];
      stands = λ l n is_node is.
          elim (cases_eq n node) [
            | inl new ↦
                let same : l ≡ list = cc (new, is, put.its_list) in
                ap (λ k. has_node n (list_at lists' k)) same ∙ ap (has_node n) at_list ∙ has_node-last n node xs
                ∙ or_right (has_node n xs) (eqb n node) (eq-eqb n node new)
            | inr old ↦
                let has = kept.stands l n is_node (sym (put.other_owners n old) ∙ is) in
                elim (cases_eq l list) [
                  | inl same ↦
                      ap (λ k. has_node n (list_at lists' k)) same ∙ ap (has_node n) at_list ∙ has_node-last n node xs
                      ∙ or_left (has_node n xs) (eqb n node) (ap (λ k. has_node n (list_at lists k)) (sym same) ∙ has)
                  | inr other ↦ ap (has_node n) (at_other l other) ∙ has
                ]
          ];
    }

-- the links and owners once a node stands in no list
pub record IsTaken (next prev : List ℕ) (owner : List (Option ℕ)) (next' prev' : List ℕ) (owner' : List (Option ℕ)) (node : ℕ) : Type 0 where
  pub links : IsOut next prev next' prev' node
  pub nexts : length next' ≡ length next
  pub prevs : length prev' ≡ length prev
  pub owners : length owner' ≡ length owner
  pub no_list : get_or owner' node None ≡ None
  pub other_owners : (n : ℕ) → n ≢ node → get_or owner' n None ≡ get_or owner n None

-- each list is without the node
pub without_at : (node : ℕ) (lists : List (List ℕ)) (list : ℕ) →
    list_at (map (without node) lists) list ≡ without node (list_at lists list)
without_at node [] list = refl
without_at node (xs ∷ lists) zero = refl
without_at node (xs ∷ lists) (suc list) = without_at node lists list

-- what comes before and after a node of a list belongs to the list
pub around_owner : (nodes : ℕ) (next prev : List ℕ) (owner : List (Option ℕ)) (lists : List (List ℕ)) (list node : ℕ) →
    IsKept nodes next prev owner lists → has_node node (list_at lists list) ≡ true →
    (get_or owner (get_or prev node 0) None ≡ Some list) × (get_or prev node 0 < nodes + length lists)
    × (get_or owner (get_or next node 0) None ≡ Some list) × (get_or next node 0 < nodes + length lists)
around_owner nodes next prev owner lists list node kept has =
    let below = has_within lists list node has in
    let seat = nodes + list in
    let ring = kept.rings list below in
    let place : (k : ℕ) → (k ≡ seat) ⊎ (has_node k (list_at lists list) ≡ true) →
    (get_or owner k None ≡ Some list) × (k < nodes + length lists) =
    λ k where_is. elim where_is [
      | inl same ↦ (ap (λ m. get_or owner m None) same ∙ kept.seats list below, omega arith)
      | inr is ↦ let it = kept.owned list k is in (it.1, omega (arith, it.0))
    ] in
    let before = place (get_or prev node 0) (before_in next prev seat (list_at lists list) seat node ring has) in
    let after = place (get_or next node 0) (after_in next prev seat (list_at lists list) seat node ring has) in
    (before.0, before.1, after.0, after.1)

-- an arena keeps its lists once a node is taken out of one
pub IsKept-taken : (nodes : ℕ) (next prev : List ℕ) (owner : List (Option ℕ)) (next' prev' : List ℕ) (owner' : List (Option ℕ)) (lists : List (List ℕ)) (list node : ℕ) →
    IsKept nodes next prev owner lists → IsTaken next prev owner next' prev' owner' node →
    has_node node (list_at lists list) ≡ true → IsKept nodes next' prev' owner' (map (without node) lists)
IsKept-taken nodes next prev owner next' prev' owner' lists list node kept taken has =
    let lists' = map (without node) lists in
    let many : length lists' ≡ length lists = length-map lists (without node) in
    let below = has_within lists list node has in
    let mine = kept.owned list node has in
    let around = around_owner nodes next prev owner lists list node kept has in
    let still : (l n : ℕ) → has_node n (list_at lists' l) ≡ true → (n ≢ node) × (has_node n (list_at lists l) ≡ true) =
    λ l n is.
    let is' : has_node n (without node (list_at lists l)) ≡ true = ap (has_node n) (sym (without_at node lists l)) ∙ is in
    let other : n ≢ node =
    λ e. false≢true (sym (has_node-without_same node (list_at lists l)) ∙ ap (λ m. has_node m (without node (list_at lists l))) (sym e) ∙ is') in
    (other, sym (has_node-without_other node n (list_at lists l) other) ∙ is') in
    record {
      few_nodes = kept.few_nodes;
      few_lists = omega (arith, many, kept.few_lists);
      nexts = omega (arith, many, taken.nexts, kept.nexts);
      prevs = omega (arith, many, taken.prevs, kept.prevs);
      owners = omega (arith, many, taken.owners, kept.owners);
      seats = λ l is_list. taken.other_owners (nodes + l) (omega (arith, mine.0)) ∙ kept.seats l (omega (arith, many));
      rings = λ l is_list.
          subst (λ (ns : List ℕ). AreLinked next' prev' (nodes + l) ns (nodes + l)) (sym (without_at node lists l))
          (elim (cases_eq l list) [
            | inl same ↦
                subst (λ k. AreLinked next' prev' (nodes + k) (without node (list_at lists k)) (nodes + k)) (sym same)
                (AreLinked-without next prev next' prev' (nodes + list) (list_at lists list) (nodes + list) node taken.links
                (kept.rings list below) has (seat_absent nodes next prev owner lists (nodes + list) list kept (omega arith))
                (seat_absent nodes next prev owner lists (nodes + list) list kept (omega arith)) (kept.once list))
            | inr other ↦
                let absent : has_node node (list_at lists l) ≡ false =
                false_from_ne_true (has_node node (list_at lists l)) (λ is.
                other (let it : l ≡ list = cc ((kept.owned l node is).1, mine.1) in it)) in
                subst (λ (ns : List ℕ). AreLinked next' prev' (nodes + l) ns (nodes + l)) (sym (without-absent node (list_at lists l) absent))
                (other_ring nodes next prev next' prev' owner lists l kept (omega (arith, many)) (λ n is.
                let not_before : n ≢ get_or prev node 0 =
                λ e. other (let it : l ≡ list = cc (e, is, around.0) in it) in
                let not_after : n ≢ get_or next node 0 =
                λ e. other (let it : l ≡ list = cc (e, is, around.2) in it) in
                (taken.links.other_nexts n not_before, taken.links.other_prevs n not_after)))
          ]);
      once = λ l. subst AreOnce (sym (without_at node lists l)) (AreOnce-without node (list_at lists l) (kept.once l));
      owned = λ l n is.
          let it = still l n is in
          let old = kept.owned l n it.1 in
          (old.0, taken.other_owners n it.0 ∙ old.1);
      stands = λ l n is_node is.
          let other : n ≢ node = λ e. absurd (cc (e, is, taken.no_list)) in
          ap (has_node n) (without_at node lists l) ∙ has_node-without_other node n (list_at lists l) other
          ∙ kept.stands l n is_node (sym (taken.other_owners n other) ∙ is);
    }
