-- What the lists of frames keep of their owners, call by call.
use Rattle.std.proofs.Common.{◌≡◌, ◌≢◌, ℕ, zero, suc, ◌+◌, ◌<◌, Bool, true, false, ◌||◌, eqb, Option, Some, None, get_or, List, [], ◌∷◌, ◌++◌, length, map, drop, refl, sym, ap, ◌∙◌, subst, arith, inl, inr, get_or-set_same, get_or-set_other}
use Rattle.std.specs.List.{slice_set}
use Rattle.std.proofs.lemmas.Bool.{cases_eq, cases_lt, eq-eqb, ne_eqb, or_from, or_right}
use Rattle.std.proofs.lemmas.List.{get_or_past, length-map, length-set}
use Rattle.std.proofs.lemmas.Option.{unwrap_or-slice_get}
use Rattle.addr_base.specs.declared.identity.BoxId.{BoxId}
use Rattle.flat_model.specs.Access.{owned_by, owner_of, owns}
use Rattle.flat_model.specs.Pages.{free_frames}
use Rattle.index_list.specs.Arena.{ArenaView, has_node, list_at, with_last, without, without_first, without_node}
use Rattle.index_list.proofs.Changes.{without_at}
use Rattle.index_list.proofs.Lists.{has_node-last, has_node-without_other, has_node-without_same, without-absent}
use Rattle.page_heap.specs.Listed.{IsListed, with_free, with_place}
use Rattle.page_heap.proofs.FreeFrames.{free_again, least_given, length-with_place}

-- the owner of a frame, read as the definitions do and as lists are
pub owner_at : (owners : List (Option BoxId)) (frame : ℕ) → owner_of owners frame ≡ get_or owners frame None
owner_at owners frame = unwrap_or-slice_get owners frame None

-- a frame that a box owns has an owner and a place
pub owned_at : (owners : List (Option BoxId)) (b frame : ℕ) → owns owners b frame ≡ true →
    (o : BoxId) × (get_or owners frame None ≡ Some o) × (frame < length owners)
owned_at owners b frame owned = found owners b frame (get_or owners frame None) refl (ap (owned_by b) (sym (owner_at owners frame)) ∙ owned)
  where
    found : (owners : List (Option BoxId)) (b frame : ℕ) (o : Option BoxId) → get_or owners frame None ≡ o → owned_by b o ≡ true →
        (o : BoxId) × (get_or owners frame None ≡ Some o) × (frame < length owners)
    found owners b frame None is owned = absurd (cc)
    found owners b frame (Some o) is owned = (
      o,
      is,
      elim (cases_lt frame (length owners)) [
        | inl below ↦ below
        | inr past ↦ absurd (cc (is, get_or_past owners frame None past))
      ],
    )

owns-same : (owners : List (Option BoxId)) (frame b : ℕ) (o : Option BoxId) → frame < length owners →
    owns (slice_set owners frame o) b frame ≡ owned_by b o
owns-same owners frame b o within =
    ap (owned_by b) (owner_at (slice_set owners frame o) frame ∙ get_or-set_same owners frame o None within)

owns-other : (owners : List (Option BoxId)) (frame b f : ℕ) (o : Option BoxId) → f ≢ frame →
    owns (slice_set owners frame o) b f ≡ owns owners b f
owns-other owners frame b f o other =
    ap (owned_by b) (owner_at (slice_set owners frame o) f ∙ get_or-set_other owners frame f o None other ∙ sym (owner_at owners f))

-- a heap's lists once the least free frame is a box's
pub IsListed-given : (owners : List (Option BoxId)) (arena : ArenaView) (b : BoxId) (frame : ℕ) (rest : List ℕ) →
    IsListed owners arena → b.0 < 256 → free_frames 0 owners ≡ frame ∷ rest →
    IsListed (slice_set owners frame (Some b)) (with_last (without_first arena 256) b.0 frame)
    × (free_frames 0 (slice_set owners frame (Some b)) ≡ rest)
IsListed-given owners arena b frame rest listed small is =
    let least = least_given 0 owners frame rest b is in
    let same : least.place ≡ frame = omega (arith, least.at) in
    let lists = arena.lists in
    let one = slice_set lists 256 (drop 1 (list_at lists 256)) in
    let mine = list_at one b.0 ++ frame ∷ [] in
    let two = slice_set one b.0 mine in
    let owners' = slice_set owners frame (Some b) in
    let many : length one ≡ length lists = length-set lists 256 (drop 1 (list_at lists 256)) in
    let more : length two ≡ length one = length-set one b.0 mine in
    let within : frame < length owners = omega (arith, least.within, same) in
    let left : free_frames 0 owners' ≡ rest = ap (λ k. free_frames 0 (slice_set owners k (Some b))) (sym same) ∙ least.others in
    let not_free : (l : ℕ) → l < 256 → list_at one l ≡ list_at lists l =
    λ l small_l. get_or-set_other lists 256 l (drop 1 (list_at lists 256)) [] (omega arith) in
    let unowned : get_or owners frame None ≡ None = ap (λ k. get_or owners k None) (sym same) ∙ least.no_owner in (
      record {
        few = listed.few;
        one_each = listed.one_each ∙ sym (length-set owners frame (Some b));
        lists = more ∙ many ∙ listed.lists;
        free =
            get_or-set_other one b.0 256 mine [] (omega arith)
            ∙ get_or-set_same lists 256 (drop 1 (list_at lists 256)) [] (omega (arith, listed.lists))
            ∙ ap (drop 1) (listed.free ∙ is) ∙ sym left;
        owned = λ l f small_l.
            elim (cases_eq l b.0) [
              | inl own ↦
                  let has : has_node f (list_at two l) ≡ (owns owners b.0 f || eqb f frame) =
                  ap (λ k. has_node f (list_at two k)) own
                  ∙ ap (has_node f) (get_or-set_same one b.0 mine [] (omega (arith, many, listed.lists)))
                  ∙ has_node-last f frame (list_at one b.0)
                  ∙ ap (λ ns. has_node f ns || eqb f frame) (not_free b.0 small)
                  ∙ ap (λ t. t || eqb f frame) (listed.owned b.0 f small) in
                  elim (cases_eq f frame) [
                    | inl is_it ↦
                        has ∙ or_right (owns owners b.0 f) (eqb f frame) (eq-eqb f frame is_it)
                        ∙ sym (ap (owns owners' l) is_it ∙ owns-same owners frame l (Some b) within ∙ eq-eqb b.0 l (sym own))
                    | inr isnt ↦
                        has ∙ last_out (owns owners b.0 f) (eqb f frame) (ne_eqb f frame isnt)
                        ∙ sym (owns-other owners frame l f (Some b) isnt ∙ ap (λ k. owns owners k f) own)
                  ]
              | inr other ↦
                  let has : has_node f (list_at two l) ≡ owns owners l f =
                  ap (has_node f) (get_or-set_other one b.0 l mine [] other ∙ not_free l small_l) ∙ listed.owned l f small_l in
                  elim (cases_eq f frame) [
                    | inl is_it ↦
                        has ∙ ap (owns owners l) is_it ∙ ap (owned_by l) (owner_at owners frame ∙ unowned)
                        ∙ sym (ap (owns owners' l) is_it ∙ owns-same owners frame l (Some b) within
                        ∙ ne_eqb b.0 l (λ e. other (sym e)))
                    | inr isnt ↦ has ∙ sym (owns-other owners frame l f (Some b) isnt)
                  ]
            ];
      },
      left,
    )
  where
    last_out : (x y : Bool) → y ≡ false → (x || y) ≡ x
    last_out true y out = refl
    last_out false y out = out

-- no free frame has an owner
free_absent : (k : ℕ) (owners : List (Option BoxId)) (place : ℕ) (o : BoxId) → get_or owners place None ≡ Some o →
    has_node (k + place) (free_frames k owners) ≡ false
free_absent k [] place o is = absurd (cc)
free_absent k (None ∷ owners) zero o is = absurd (cc)
free_absent k (Some p ∷ owners) zero o is = past_absent k (k + 1) (k + 0) owners (omega arith)
  where
    past_absent : (k from n : ℕ) (owners : List (Option BoxId)) → n < from → has_node n (free_frames from owners) ≡ false
    past_absent k from n [] below = refl
    past_absent k from n (None ∷ owners) below =
        or_from (eqb n from) (has_node n (free_frames (from + 1) owners)) (ne_eqb n from (λ e. absurd (omega arith)))
        (past_absent k (from + 1) n owners (omega arith))
    past_absent k from n (Some p ∷ owners) below = past_absent k (from + 1) n owners (omega arith)
free_absent k (None ∷ owners) (suc place) o is =
    let same : (k + 1) + place ≡ k + suc place = omega arith in
    or_from (eqb (k + suc place) k) (has_node (k + suc place) (free_frames (k + 1) owners))
    (ne_eqb (k + suc place) k (λ e. absurd (omega arith)))
    (ap (λ n. has_node n (free_frames (k + 1) owners)) (sym same) ∙ free_absent (k + 1) owners place o is)
free_absent k (Some p ∷ owners) (suc place) o is =
    let same : (k + 1) + place ≡ k + suc place = omega arith in
    ap (λ n. has_node n (free_frames (k + 1) owners)) (sym same) ∙ free_absent (k + 1) owners place o is

-- once a frame is taken out of the list of its box, the free ones are as they were
pub free_kept : (owners : List (Option BoxId)) (arena : ArenaView) (b frame : ℕ) → IsListed owners arena →
    owns owners b frame ≡ true → list_at (map (without frame) arena.lists) 256 ≡ free_frames 0 owners
free_kept owners arena b frame listed owned =
    let own = owned_at owners b frame owned in
    let same : 0 + frame ≡ frame = omega arith in
    without_at frame arena.lists 256 ∙ ap (without frame) listed.free
    ∙ without-absent frame (free_frames 0 owners)
    (ap (λ n. has_node n (free_frames 0 owners)) (sym same) ∙ free_absent 0 owners frame own.0 own.1)

-- a heap's lists once a frame is free again
pub IsListed-freed : (owners : List (Option BoxId)) (arena : ArenaView) (b frame : ℕ) → IsListed owners arena →
    owns owners b frame ≡ true → IsListed (slice_set owners frame None) (with_free (without_node arena frame) frame)
IsListed-freed owners arena b frame listed owned =
    let own = owned_at owners b frame owned in
    let one = map (without frame) arena.lists in
    let placed = with_place frame (list_at one 256) in
    let many : length one ≡ length arena.lists = length-map arena.lists (without frame) in
    let same : 0 + frame ≡ frame = omega arith in
    record {
      few = listed.few;
      one_each = listed.one_each ∙ sym (length-set owners frame None);
      lists = length-set one 256 placed ∙ many ∙ listed.lists;
      free =
          get_or-set_same one 256 placed [] (omega (arith, many, listed.lists))
          ∙ ap (with_place frame) (free_kept owners arena b frame listed owned)
          ∙ ap (λ n. with_place n (free_frames 0 owners)) (sym same)
          ∙ sym (free_again 0 owners frame own.0 own.2 own.1);
      owned = λ l f small.
          let here : list_at (slice_set one 256 placed) l ≡ without frame (list_at arena.lists l) =
          get_or-set_other one 256 l placed [] (omega arith) ∙ without_at frame arena.lists l in
          elim (cases_eq f frame) [
            | inl is_it ↦
                ap (has_node f) here ∙ ap (λ n. has_node n (without frame (list_at arena.lists l))) is_it
                ∙ has_node-without_same frame (list_at arena.lists l)
                ∙ sym (ap (owns (slice_set owners frame None) l) is_it ∙ owns-same owners frame l None own.2)
            | inr isnt ↦
                ap (has_node f) here ∙ has_node-without_other frame f (list_at arena.lists l) isnt
                ∙ listed.owned l f small ∙ sym (owns-other owners frame l f None isnt)
          ];
    }

-- one frame more is free
pub length-freed : (owners : List (Option BoxId)) (b frame : ℕ) → owns owners b frame ≡ true →
    length (free_frames 0 (slice_set owners frame None)) ≡ length (free_frames 0 owners) + 1
length-freed owners b frame owned =
    let own = owned_at owners b frame owned in
    ap length (free_again 0 owners frame own.0 own.2 own.1) ∙ length-with_place (0 + frame) (free_frames 0 owners)

-- the same of equal owners and an equal arena
pub IsListed-now : (owners owners' : List (Option BoxId)) (arena arena' : ArenaView) → owners' ≡ owners → arena' ≡ arena →
    IsListed owners arena → IsListed owners' arena'
IsListed-now owners owners' arena arena' same_owners same_arena listed =
    subst (λ (a : ArenaView). IsListed owners' a) (sym same_arena)
    (subst (λ (os : List (Option BoxId)). IsListed os arena) (sym same_owners) listed)
