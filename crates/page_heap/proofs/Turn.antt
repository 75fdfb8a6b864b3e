-- A list of ascending numbers, turned round once so that one more comes into its place.
use Rattle.std.proofs.Common.{◌≡◌, ◌≢◌, ℕ, ◌+◌, ◌<◌, ◌≤◌, Bool, subst, ltb, ◌&&◌, not, true, false, cond, Some, None, get_or, List, [], ◌∷◌, ◌++◌, length, drop, slice_get, refl, sym, ap, ◌∙◌, arith, append_assoc, get_or-set_same}
use Rattle.std.specs.List.{slice_set}
use Rattle.std.proofs.lemmas.Bool.{false≢true, le-ltb, lt-ltb, ltb-false}
use Rattle.std.proofs.lemmas.List.{append-nil, drop_all, drop_more, set-get_or, set-set}
use Rattle.index_list.specs.Arena.{ArenaView, has_node, list_at, list_with, with_last, without_first}
use Rattle.index_list.proofs.Alone.{last_alone, rest_alone}
use Rattle.index_list.proofs.Walks.{has_node-at, none_has}
use Rattle.page_heap.specs.Listed.{with_free, with_place}

-- what is still to be put last in the list
abbrev pub to_come : Bool → ℕ → List ℕ → List ℕ
to_come placed n xs = cond placed xs (with_place n xs)

-- some numbers of a list were turned round, and the others are still to come
pub record IsTurning (before arena : ArenaView) (frame : ℕ) (placed : Bool) (at : ℕ) : Type 0 where
  pub turned : List ℕ
  pub nodes : arena.nodes ≡ before.nodes
  pub lists : arena.lists ≡ slice_set before.lists 256 (drop at (list_at before.lists 256) ++ turned)
  pub left : turned ++ to_come placed frame (drop at (list_at before.lists 256)) ≡ with_place frame (list_at before.lists 256)
  pub alone : placed ≡ false → list_with arena.lists frame ≡ None

lists_last : (before : List (List ℕ)) (arena : ArenaView) (ys : List ℕ) (n : ℕ) → 256 < length before →
    arena.lists ≡ slice_set before 256 ys → (with_last arena 256 n).lists ≡ slice_set before 256 (ys ++ n ∷ [])
lists_last before arena ys n enough is =
    let there : list_at arena.lists 256 ≡ ys = ap (λ ls. list_at ls 256) is ∙ get_or-set_same before 256 ys [] enough in
    ap (λ ls. slice_set ls 256 (list_at arena.lists 256 ++ n ∷ [])) is
    ∙ ap (λ zs. slice_set (slice_set before 256 ys) 256 (zs ++ n ∷ [])) there ∙ set-set before 256 ys (ys ++ n ∷ [])

lists_rest : (before : List (List ℕ)) (arena : ArenaView) (ys : List ℕ) → 256 < length before →
    arena.lists ≡ slice_set before 256 ys → (without_first arena 256).lists ≡ slice_set before 256 (drop 1 ys)
lists_rest before arena ys enough is =
    let there : list_at arena.lists 256 ≡ ys = ap (λ ls. list_at ls 256) is ∙ get_or-set_same before 256 ys [] enough in
    ap (λ ls. slice_set ls 256 (drop 1 (list_at arena.lists 256))) is
    ∙ ap (λ zs. slice_set (slice_set before 256 ys) 256 (drop 1 zs)) there ∙ set-set before 256 ys (drop 1 ys)

same_arena : (a b : ArenaView) → a.nodes ≡ b.nodes → a.lists ≡ b.lists → a ≡ b
same_arena a b nodes lists =
    let made : ℕ → List (List ℕ) → ArenaView = λ n ls. record { nodes = n; lists = ls } in
    ap (λ n. made n a.lists) nodes ∙ ap (made b.nodes) lists

-- at first none was turned round
pub IsTurning-start : (before : ArenaView) (frame : ℕ) → length before.lists ≡ 257 → list_with before.lists frame ≡ None →
    IsTurning before before frame false 0
IsTurning-start before frame lists alone = record {
  turned = [];
  nodes = refl;
  lists =
      sym (ap (slice_set before.lists 256) (append-nil (list_at before.lists 256))
      ∙ set-get_or before.lists 256 []);
  left = refl;
  alone = λ e. alone;
}

-- the first of the list is the next one
pub turning_first : (before arena : ArenaView) (frame : ℕ) (placed : Bool) (at : ℕ) → length before.lists ≡ 257 →
    IsTurning before arena frame placed at → at < length (list_at before.lists 256) →
    slice_get (list_at arena.lists 256) 0 ≡ Some (get_or (list_at before.lists 256) at 0)
turning_first before arena frame placed at lists it within =
    let F = list_at before.lists 256 in
    ap (λ ls. slice_get (list_at ls 256) 0) it.lists
    ∙ ap (λ zs. slice_get zs 0) (get_or-set_same before.lists 256 (drop at F ++ it.turned) [] (omega (arith, lists)))
    ∙ ap (λ zs. slice_get (zs ++ it.turned) 0) (drop_more F at 0 within)

-- the list once the first one is taken out
rest_lists : (before arena : ArenaView) (frame : ℕ) (placed : Bool) (at : ℕ) → length before.lists ≡ 257 →
    (it : IsTurning before arena frame placed at) → at < length (list_at before.lists 256) →
    (without_first arena 256).lists ≡ slice_set before.lists 256 (drop (at + 1) (list_at before.lists 256) ++ it.turned)
rest_lists before arena frame placed at lists it within =
    let F = list_at before.lists 256 in
    lists_rest before.lists arena (drop at F ++ it.turned) (omega (arith, lists)) it.lists
    ∙ ap (λ zs. slice_set before.lists 256 (drop 1 (zs ++ it.turned))) (drop_more F at 0 within)

-- the next one is put last
pub IsTurning-on : (before arena : ArenaView) (frame first : ℕ) (placed : Bool) (at : ℕ) → length before.lists ≡ 257 →
    IsTurning before arena frame placed at → at < length (list_at before.lists 256) →
    slice_get (list_at arena.lists 256) 0 ≡ Some first → (placed ≡ false → first ≤ frame) →
    IsTurning before (with_last (without_first arena 256) 256 first) frame placed (at + 1)
IsTurning-on before arena frame first placed at lists it within is kept =
    let F = list_at before.lists 256 in
    let next = get_or F at 0 in
    let rest = drop (at + 1) F in
    let same : next ≡ first = cc (is, turning_first before arena frame placed at lists it within) in
    record {
      turned = it.turned ++ first ∷ [];
      nodes = it.nodes;
      lists =
          lists_last before.lists (without_first arena 256) (rest ++ it.turned) first (omega (arith, lists))
          (rest_lists before arena frame placed at lists it within)
          ∙ ap (slice_set before.lists 256) (append_assoc rest it.turned (first ∷ []));
      left =
          append_assoc it.turned (first ∷ []) (to_come placed frame rest)
          ∙ ap (λ zs. it.turned ++ zs) (sym (come_on placed frame first rest kept))
          ∙ ap (λ n. it.turned ++ to_come placed frame (n ∷ rest)) (sym same)
          ∙ ap (λ zs. it.turned ++ to_come placed frame zs) (sym (drop_more F at 0 within)) ∙ it.left;
      alone = λ e.
          let alone = it.alone e in
          let apart : frame ≢ first =
          λ e'. false≢true (sym (none_has arena.lists frame 256 alone)
          ∙ ap (λ n. has_node n (list_at arena.lists 256)) e' ∙ has_node-at (list_at arena.lists 256) 0 first is) in
          last_alone (without_first arena 256).lists 256 frame first (rest_alone arena.lists 256 frame alone) apart;
    }
  where
    come_on : (placed : Bool) (frame first : ℕ) (rest : List ℕ) → (placed ≡ false → first ≤ frame) →
        to_come placed frame (first ∷ rest) ≡ first ∷ to_come placed frame rest
    come_on true frame first rest kept = refl
    come_on false frame first rest kept =
        ap (λ b. cond b (frame ∷ first ∷ rest) (first ∷ with_place frame rest)) (le-ltb frame first (kept refl))

-- the one to come is put last, and then the next one
pub IsTurning-place : (before arena : ArenaView) (frame first at : ℕ) → length before.lists ≡ 257 →
    IsTurning before arena frame false at → at < length (list_at before.lists 256) →
    slice_get (list_at arena.lists 256) 0 ≡ Some first → frame < first →
    IsTurning before (with_last (with_last (without_first arena 256) 256 frame) 256 first) frame true (at + 1)
IsTurning-place before arena frame first at lists it within is less =
    let F = list_at before.lists 256 in
    let next = get_or F at 0 in
    let rest = drop (at + 1) F in
    let same : next ≡ first = cc (is, turning_first before arena frame false at lists it within) in
    let enough : 256 < length before.lists = omega (arith, lists) in
    record {
      turned = (it.turned ++ frame ∷ []) ++ first ∷ [];
      nodes = it.nodes;
      lists =
          lists_last before.lists (with_last (without_first arena 256) 256 frame) ((rest ++ it.turned) ++ frame ∷ []) first enough
          (lists_last before.lists (without_first arena 256) (rest ++ it.turned) frame enough
          (rest_lists before arena frame false at lists it within))
          ∙ ap (λ zs. slice_set before.lists 256 (zs ++ first ∷ [])) (append_assoc rest it.turned (frame ∷ []))
          ∙ ap (slice_set before.lists 256) (append_assoc rest (it.turned ++ frame ∷ []) (first ∷ []));
      left =
          append_assoc (it.turned ++ frame ∷ []) (first ∷ []) rest
          ∙ append_assoc it.turned (frame ∷ []) (first ∷ rest)
          ∙ ap (λ zs. it.turned ++ zs)
          (sym (ap (λ b. cond b (frame ∷ first ∷ rest) (first ∷ with_place frame rest)) (lt-ltb frame first less)))
          ∙ ap (λ n. it.turned ++ with_place frame (n ∷ rest)) (sym same)
          ∙ ap (λ zs. it.turned ++ with_place frame zs) (sym (drop_more F at 0 within)) ∙ it.left;
      alone = λ e. absurd (false≢true (sym e));
    }

-- at the end each was turned round: the one to come is in its place, or comes last
turned_all : (before arena : ArenaView) (frame : ℕ) (placed : Bool) (at : ℕ) → IsTurning before arena frame placed at →
    length (list_at before.lists 256) ≤ at → (it : List ℕ) × (arena.lists ≡ slice_set before.lists 256 it)
    × (it ++ to_come placed frame [] ≡ with_place frame (list_at before.lists 256))
turned_all before arena frame placed at it past =
    let F = list_at before.lists 256 in
    let none : drop at F ≡ [] = drop_all at F past in (
      it.turned,
      it.lists ∙ ap (λ zs. slice_set before.lists 256 (zs ++ it.turned)) none,
      ap (λ zs. it.turned ++ to_come placed frame zs) (sym none) ∙ it.left,
    )

pub turned_placed : (before arena : ArenaView) (frame at : ℕ) → IsTurning before arena frame true at →
    length (list_at before.lists 256) ≤ at → arena ≡ with_free before frame
turned_placed before arena frame at it past =
    let all = turned_all before arena frame true at it past in
    same_arena arena (with_free before frame) it.nodes
    (all.1 ∙ ap (slice_set before.lists 256) (sym (append-nil all.0) ∙ all.2))

pub turned_last : (before arena : ArenaView) (frame at : ℕ) → length before.lists ≡ 257 → IsTurning before arena frame false at →
    length (list_at before.lists 256) ≤ at → with_last arena 256 frame ≡ with_free before frame
turned_last before arena frame at lists it past =
    let all = turned_all before arena frame false at it past in
    same_arena (with_last arena 256 frame) (with_free before frame) it.nodes
    (lists_last before.lists arena all.0 frame (omega (arith, lists)) all.1 ∙ ap (slice_set before.lists 256) all.2)

-- the first one stays before the one to come, where that doesn't come before it
pub first_stays : (placed : Bool) (frame first : ℕ) → (not placed && ltb frame first) ≡ false → placed ≡ false → first ≤ frame
first_stays true frame first is off = absurd (cc)
first_stays false frame first is off = ltb-false frame first is

-- the same of an equal arena
pub IsTurning-now : (before arena arena' : ArenaView) (frame : ℕ) (placed placed' : Bool) (at : ℕ) → arena' ≡ arena →
    placed' ≡ placed → IsTurning before arena frame placed at → IsTurning before arena' frame placed' at
IsTurning-now before arena arena' frame placed placed' at same_arena same_placed it =
    subst (λ (p : Bool). IsTurning before arena' frame p at) (sym same_placed)
    (subst (λ (a : ArenaView). IsTurning before a frame placed at) (sym same_arena) it)
