-- The frames of a heap while its lists are made, and while the least free ones are given.
use Rattle.std.proofs.Common.{◌≡◌, ℕ, zero, suc, ◌+◌, ◌<◌, ◌≤◌, false, eqb, Option, Some, None, get_or, List, [], ◌∷◌, ◌++◌, length, take, drop, replicate, slice_get, refl, sym, ap, ◌∙◌, subst, arith, inl, inr, get_or-set_same, get_or-set_other}
use Rattle.std.specs.List.{slice_set}
use Rattle.std.proofs.lemmas.Bool.{cases_lt, ne_eqb, or_from}
use Rattle.std.proofs.lemmas.List.{drop_more, get_or-replicate, get_or_past, length-replicate, length-set, take_more}
use Rattle.addr_base.specs.declared.identity.BoxId.{BoxId}
use Rattle.flat_model.specs.Access.{owned_by, owns}
use Rattle.flat_model.specs.Pages.{free_frames, with_owner}
use Rattle.index_list.specs.Arena.{ArenaView, has_node, list_at, list_with, opening_arena, with_last, without_first}
use Rattle.index_list.proofs.Walks.{list_with-none}
use Rattle.page_heap.specs.Listed.{IsListed}
use Rattle.page_heap.proofs.FreeFrames.{free_frames-more, with_owner-last}
use Rattle.page_heap.proofs.ListedFrames.{IsListed-given, owner_at}

-- so many frames were put in the list of free ones
pub record IsFreeing (arena : ArenaView) (count at : ℕ) : Type 0 where
  pub nodes : arena.nodes ≡ count
  pub lists : length arena.lists ≡ 257
  pub free : list_at arena.lists 256 ≡ free_frames 0 (replicate at None)
  pub others : (list : ℕ) → list < 256 → list_at arena.lists list ≡ []

empty_at : (lists list : ℕ) → list_at (replicate lists []) list ≡ []
empty_at lists list =
    elim (cases_lt list lists) [
      | inl below ↦ get_or-replicate lists list [] [] below
      | inr past ↦ get_or_past (replicate lists []) list [] (omega (arith, length-replicate {A = List ℕ} lists []))
    ]

pub IsFreeing-start : (arena : ArenaView) (count lists : ℕ) → lists ≡ 257 → arena ≡ opening_arena count lists → IsFreeing arena count 0
IsFreeing-start arena count lists many is =
    subst (λ (a : ArenaView). IsFreeing a count 0) (sym is) (record {
      nodes = refl;
      lists = length-replicate {A = List ℕ} lists [] ∙ many;
      free = empty_at lists 256;
      others = λ list below. empty_at lists list;
    })

later_absent : (k m n : ℕ) → k + m ≤ n → has_node n (free_frames k (replicate m None)) ≡ false
later_absent k zero n past = refl
later_absent k (suc m) n past =
    or_from (eqb n k) (has_node n (free_frames (k + 1) (replicate m None))) (ne_eqb n k (λ e. absurd (omega arith)))
    (later_absent (k + 1) m n (omega arith))

-- the next frame stands in no list yet
pub next_alone : (arena : ArenaView) (count at : ℕ) → IsFreeing arena count at → list_with arena.lists at ≡ None
next_alone arena count at it =
    list_with-none arena.lists at (λ list below.
    elim (cases_lt list 256) [
      | inl small ↦ ap (has_node at) (it.others list small)
      | inr past ↦
          let last : list ≡ 256 = omega (arith, it.lists) in
          ap (λ l. has_node at (list_at arena.lists l)) last ∙ ap (has_node at) it.free ∙ later_absent 0 at at (omega arith)
    ])

pub IsFreeing-more : (arena : ArenaView) (count at : ℕ) → IsFreeing arena count at → IsFreeing (with_last arena 256 at) count (at + 1)
IsFreeing-more arena count at it =
    let more = list_at arena.lists 256 ++ at ∷ [] in
    let one_more : suc at ≡ at + 1 = omega arith in
    let same : 0 + at ≡ at = omega arith in
    record {
      nodes = it.nodes;
      lists = length-set arena.lists 256 more ∙ it.lists;
      free =
          get_or-set_same arena.lists 256 more [] (omega (arith, it.lists))
          ∙ ap (λ xs. xs ++ at ∷ []) it.free
          ∙ ap (λ m. free_frames 0 (replicate at None) ++ m ∷ []) (sym same)
          ∙ sym (free_frames-more 0 at)
          ∙ ap (λ m. free_frames 0 (replicate m None)) one_more;
      others = λ list below. get_or-set_other arena.lists 256 list more [] (omega arith) ∙ it.others list below;
    }

none_owned : (count b frame : ℕ) → owns (replicate count None) b frame ≡ false
none_owned count b frame =
    ap (owned_by b) (owner_at (replicate count None) frame
    ∙ elim (cases_lt frame count) [
      | inl below ↦ get_or-replicate count frame None None below
      | inr past ↦ get_or_past (replicate count None) frame None (omega (arith, length-replicate {A = Option BoxId} count None))
    ])

-- all frames are free
pub IsFreeing-all : (arena : ArenaView) (count at : ℕ) → count ≤ 256 → at ≡ count → IsFreeing arena count at →
    IsListed (replicate count None) arena
IsFreeing-all arena count at few all it = record {
  few = omega (arith, it.nodes);
  one_each = it.nodes ∙ sym (length-replicate {A = Option BoxId} count None);
  lists = it.lists;
  free = it.free ∙ ap (λ m. free_frames 0 (replicate m None)) all;
  owned = λ b frame small. ap (has_node frame) (it.others b small) ∙ sym (none_owned count b frame);
}

-- so many of the least free frames were given to a box
pub record IsGiving (before owners : List (Option BoxId)) (arena : ArenaView) (b : BoxId) (out : List ℕ) (at : ℕ) : Type 0 where
  pub listed : IsListed owners arena
  pub left : free_frames 0 owners ≡ drop at (free_frames 0 before)
  pub least : out ≡ take at (free_frames 0 before)
  pub given : owners ≡ with_owner (Some b) out before

pub IsGiving-start : (owners : List (Option BoxId)) (arena : ArenaView) (b : BoxId) (out : List ℕ) → IsListed owners arena →
    out ≡ [] → IsGiving owners owners arena b out 0
IsGiving-start owners arena b out listed empty =
    subst (λ (o : List ℕ). IsGiving owners owners arena b o 0) (sym empty)
    (record { listed = listed; left = refl; least = refl; given = refl })

-- the first of the free list is the next one
pub giving_first : (before owners : List (Option BoxId)) (arena : ArenaView) (b : BoxId) (out : List ℕ) (at : ℕ) →
    IsGiving before owners arena b out at → at < length (free_frames 0 before) →
    slice_get (list_at arena.lists 256) 0 ≡ Some (get_or (free_frames 0 before) at 0)
giving_first before owners arena b out at it within =
    ap (λ xs. slice_get xs 0) (it.listed.free ∙ it.left ∙ drop_more (free_frames 0 before) at 0 within)

pub IsGiving-more : (before owners : List (Option BoxId)) (arena : ArenaView) (b : BoxId) (out : List ℕ) (at frame : ℕ) →
    IsGiving before owners arena b out at → b.0 < 256 → at < length (free_frames 0 before) →
    slice_get (list_at arena.lists 256) 0 ≡ Some frame →
    IsGiving before (slice_set owners frame (Some b)) (with_last (without_first arena 256) b.0 frame) b (out ++ frame ∷ []) (at + 1)
IsGiving-more before owners arena b out at frame it small within is =
    let frames = free_frames 0 before in
    let rest = drop (at + 1) frames in
    let same : get_or frames at 0 ≡ frame = cc (is, giving_first before owners arena b out at it within) in
    let next : free_frames 0 owners ≡ frame ∷ rest =
    it.left ∙ drop_more frames at 0 within ∙ ap (λ n. n ∷ rest) same in
    let step = IsListed-given owners arena b frame rest it.listed small next in
    record {
      listed = step.0;
      left = step.1;
      least =
          ap (λ xs. xs ++ frame ∷ []) it.least ∙ ap (λ n. take at frames ++ n ∷ []) (sym same)
          ∙ sym (take_more frames at 0 within);
      given = ap (λ os. slice_set os frame (Some b)) it.given ∙ sym (with_owner-last (Some b) out frame before);
    }

-- the same of equal owners, an equal arena and equal frames
pub IsGiving-now : (before owners owners' : List (Option BoxId)) (arena arena' : ArenaView) (b : BoxId) (out out' : List ℕ) (at : ℕ) →
    owners' ≡ owners → arena' ≡ arena → out' ≡ out → IsGiving before owners arena b out at → IsGiving before owners' arena' b out' at
IsGiving-now before owners owners' arena arena' b out out' at same_owners same_arena same_out it =
    subst (λ (o : List ℕ). IsGiving before owners' arena' b o at) (sym same_out)
    (subst (λ (a : ArenaView). IsGiving before owners' a b out at) (sym same_arena)
    (subst (λ (os : List (Option BoxId)). IsGiving before os arena b out at) (sym same_owners) it))
