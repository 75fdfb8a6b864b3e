-- What a switch, a recovery and a flush leave of the rotator's state.
use Rattle.std.proofs.Common.{◌≡◌, ℕ, ◌-◌, List, length, map, replicate, Option, Some, None, refl, sym, ◌∙◌, ap, subst, arith, inr}
use Rattle.std.specs.Prelude.{is_some, option_map, slice_set, IfSome}
use Rattle.std.specs.List.{AllByRecursion, Contains, slice_get}
use Rattle.std.specs.Option.{option_map_or}
use Rattle.std.proofs.lemmas.Option.{get_or_from_slice_get, same_Some, slice_get-map, slice_get_within}
use Rattle.std.proofs.Math.ListN.{length-set}
use Rattle.addr_base.specs.declared.identity.BoxId.{BoxId}
use Rattle.addr_base.specs.declared.pairs.Pair.{Pair}
use Rattle.addr_base.specs.declared.pairs.Verdict.TheVariants.{Denied}
use Rattle.addr_base.specs.declared.rights.Kind.{Kind}
use Rattle.flat_model.specs.declared.boards.HeapPart.{HeapPart}
use Rattle.flat_model.specs.declared.parts.BoxPart.{BoxPart}
use Rattle.flat_model.specs.declared.parts.Config.{Config}
use Rattle.flat_model.specs.Access.{holds}
use Rattle.flat_model.specs.Decision.{decision, is_granted}
use Rattle.flat_model.specs.Plan.{REGIONS, first_serving, flushed_pairs, next_slot, no_pair, page_pairs, plan_of, switch_slots}
use Rattle.flat_model.specs.Sound.{IsSound}
use Rattle.flat_model.specs.UnitRun.{UnitState, rotated}
use Rattle.flat_model.specs.Circle.{IsTurnedBy}
use Rattle.flat_model.proofs.Elements.{each-append, each-get, each_weaker}
use Rattle.flat_model.proofs.PagePairs.{OfPages, each-page_pairs}
use Rattle.flat_model.proofs.Flushing.{OnCircle-next, flushed_pairs-turned, length-cleared}
use Rattle.flat_model.specs.Pages.{HasOwners}
use Rattle.flat_model.proofs.Placed.{IsPlaced-from_sound}
use Rattle.flat_model.proofs.Recovered.{IsPlanned, is_granted-recovered, is_some-recovered}
use Rattle.flat_model.proofs.Recovery.{IsFirst-first_serving}
use Rattle.flat_model.proofs.Turning.{IsTurnedBy-set, IsTurnedBy-switch, touched_pairs}
use Rattle.region_rotation.specs.declared.home.HomePairs.{HomePairs}
use Rattle.region_rotation.specs.Ready.{IsHeapBelow, IsHome, IsKnown, IsOfPlan, IsReady, plan_at, slots_at}
use Rattle.region_rotation.specs.Rotation.{Rotation, home_pairs, rotation_of}
use Rattle.region_rotation.proofs.Homes.{each_home, heap_below}

-- before any switch
pub IsReady-new : (cfg : Config) → IsSound cfg → IsReady (map (home_pairs cfg) cfg.boxes) cfg.board.heap None (replicate 8 no_pair) 2
IsReady-new cfg it = record {
  regions = refl;
  on = (omega arith, omega arith);
  homes_known = each_home cfg it;
  heap_known = heap_below cfg it;
  last_known = tt;
  turned = λ b home last found. absurd (let e : None ≡ Some b = last in cc);
}

-- after a switch
pub IsReady-switched : (homes : List HomePairs) (heap : Option HeapPart) (last : Option BoxId) (pairs : List Pair) (c : ℕ) (b : BoxId) (home : HomePairs) → IsReady homes heap last pairs c → slice_get homes b.0 ≡ Some home → IsReady homes heap (Some b) (slots_at home) 2
IsReady-switched homes heap last pairs c b home ready found = record {
  regions = refl;
  on = (omega arith, omega arith);
  homes_known = ready.homes_known;
  heap_known = ready.heap_known;
  last_known = slice_get_within homes b.0 home found;
  turned = λ other its is at.
      let same : b ≡ other = same_Some b other is in
      let one : home ≡ its = same_Some home its (sym found ∙ ap (λ x. slice_get homes x.0) same ∙ at) in
      subst (λ h. IsTurnedBy (IsOfPlan heap h other.0) (slots_at h) (slots_at home)) one (IsTurnedBy-switch (IsOfPlan heap home other.0) (slots_at home));
}

-- after a rotation
pub IsReady-rotated : (homes : List HomePairs) (heap : Option HeapPart) (b : BoxId) (pairs : List Pair) (c : ℕ) (home : HomePairs) (owners : List (Option BoxId)) (p : Pair) (a : ℕ) (kind : Kind) → IsReady homes heap (Some b) pairs c → slice_get homes b.0 ≡ Some home → first_serving a kind (plan_at heap home b.0 owners) ≡ Some p → IsReady homes heap (Some b) (slice_set pairs c p) (next_slot REGIONS c)
IsReady-rotated homes heap b pairs c home owners p a kind ready found first = record {
  regions = length-set pairs c p ∙ ready.regions;
  on = OnCircle-next REGIONS c (omega arith) ready.on;
  homes_known = ready.homes_known;
  heap_known = ready.heap_known;
  last_known = ready.last_known;
  turned = λ other its is at.
      let it = IsFirst-first_serving a kind (plan_at heap home b.0 owners) p first in
      let in_plan : Contains (plan_at heap home b.0 owners) p =
      (it.place, slice_get_within (plan_at heap home b.0 owners) it.place p it.at, get_or_from_slice_get (plan_at heap home b.0 owners) it.place p p it.at) in
      let same : b ≡ other = same_Some b other is in
      let one : home ≡ its = same_Some home its (sym found ∙ ap (λ x. slice_get homes x.0) same ∙ at) in
      let of_plan : IsOfPlan heap its other.0 p = subst (λ h. IsOfPlan heap h other.0 p) one (subst (λ x. IsOfPlan heap home x.0 p) same (owners, in_plan)) in
      IsTurnedBy-set (IsOfPlan heap its other.0) (slots_at its) pairs c p (ready.turned other its is at) ready.on of_plan;
}

-- after a flush
pub IsReady-flushed : (homes : List HomePairs) (heap : Option HeapPart) (last : Option BoxId) (pairs : List Pair) (c : ℕ) → IsReady homes heap last pairs c → IsReady homes heap last (flushed_pairs pairs) 2
IsReady-flushed homes heap last pairs c ready = record {
  regions = length-cleared (length pairs - 3) pairs ∙ ready.regions;
  on = (omega arith, omega arith);
  homes_known = ready.homes_known;
  heap_known = ready.heap_known;
  last_known = ready.last_known;
  turned = λ b home is at.
      let same = flushed_pairs-turned (IsOfPlan heap home b.0) REGIONS home.flash home.own home.overlay pairs (omega arith) (ready.turned b home is at) in
      subst (IsTurnedBy (IsOfPlan heap home b.0) (slots_at home)) (sym same) (IsTurnedBy-switch (IsOfPlan heap home b.0) (slots_at home));
}

-- a pair of the plan can be given to a slot
pub known_planned : (heap : Option HeapPart) (home : HomePairs) (b : ℕ) (owners : List (Option BoxId)) (a : ℕ) (kind : Kind) (p : Pair) → IfSome heap IsHeapBelow → IsHome home → first_serving a kind (plan_at heap home b owners) ≡ Some p → IsKnown p
known_planned heap home b owners a kind p below known first =
    let it = IsFirst-first_serving a kind (plan_at heap home b owners) p first in
    each-get IsKnown (plan_at heap home b owners) it.place p
    (each-append IsKnown home.grants (page_pairs heap owners b) known.grants (pages_known heap below)) it.at
  where
    pages_known : (heap : Option HeapPart) → IfSome heap IsHeapBelow → AllByRecursion IsKnown (page_pairs heap owners b)
    pages_known None below = tt
    pages_known (Some h) below =
        each_weaker (OfPages h owners b) IsKnown (λ q of. inr of.valid) (page_pairs (Some h) owners b) (each-page_pairs h owners b below.grouped)

-- ---- what a recovery tells of the box of a configuration

home_at : (cfg : Config) (b : ℕ) (part : BoxPart) → slice_get cfg.boxes b ≡ Some part → slice_get (map (home_pairs cfg) cfg.boxes) b ≡ Some (home_pairs cfg part)
home_at cfg b part found = slice_get-map (home_pairs cfg) cfg.boxes b ∙ ap (option_map (home_pairs cfg)) found

-- a rotation of which the unit is ready
abbrev IsReadyRotation : Rotation → Type 0
IsReadyRotation r = IsReady r.homes r.heap r.unit.last r.unit.pairs r.unit.circle

abbrev rotation_with : Rotation → Pair → Rotation
rotation_with x p = record {
  homes = x.homes;
  heap = x.heap;
  unit = record { last = x.unit.last; pairs = slice_set x.unit.pairs x.unit.circle p; circle = next_slot REGIONS x.unit.circle };
}

module _ (cfg : Config) (unit : UnitState) (b : BoxId) (part : BoxPart) (owners : List (Option BoxId)) (a : ℕ) (kind : Kind) (r : Rotation) (is : r ≡ rotation_of cfg unit) (ready : IsReady r.homes r.heap r.unit.last r.unit.pairs r.unit.circle) (last : unit.last ≡ Some b) (found : slice_get cfg.boxes b.0 ≡ Some part) where
  now_ready : IsReady (map (home_pairs cfg) cfg.boxes) cfg.board.heap unit.last unit.pairs unit.circle
  now_ready = subst IsReadyRotation is ready

  turned : IsTurnedBy (IsPlanned cfg b.0 part) (switch_slots cfg part) unit.pairs
  turned = now_ready.turned b (home_pairs cfg part) last (home_at cfg b.0 part found)

  -- the plan that was searched is that of the box
  pub same_first : (c : BoxId) (home : HomePairs) → r.unit.last ≡ Some c → slice_get r.homes c.0 ≡ Some home → first_serving a kind (plan_at r.heap home c.0 owners) ≡ first_serving a kind (plan_of cfg owners b.0 part)
  same_first c home last_c home_c =
      let box : c ≡ b = same_Some c b (sym last_c ∙ ap (λ x. x.unit.last) is ∙ last) in
      let its : home ≡ home_pairs cfg part =
      same_Some home (home_pairs cfg part) (sym home_c ∙ ap (λ x. slice_get x.homes c.0) is ∙ ap (λ x. slice_get (map (home_pairs cfg) cfg.boxes) x.0) box ∙ home_at cfg b.0 part found) in
      ap (λ h. first_serving a kind (plan_at h home c.0 owners)) (ap (λ x. x.heap) is)
      ∙ ap (λ h. first_serving a kind (plan_at cfg.board.heap h c.0 owners)) its
      ∙ ap (λ x. first_serving a kind (plan_at cfg.board.heap (home_pairs cfg part) x.0 owners)) box

  module _ (denied : decision r.unit.pairs a kind ≡ Denied) (all : HasOwners r.heap owners) (it : IsSound cfg) where
    now_denied : decision unit.pairs a kind ≡ Denied
    now_denied = sym (ap (λ x. decision x.unit.pairs a kind) is) ∙ denied

    now_all : HasOwners cfg.board.heap owners
    now_all = subst (λ x. HasOwners x.heap owners) is all

    pub held-recovered : is_some (first_serving a kind (plan_of cfg owners b.0 part)) ≡ holds cfg owners b.0 a 1 kind
    held-recovered =
        is_some-recovered cfg owners b.0 part (IsPlaced-from_sound cfg it b.0 part found) found now_all unit.pairs turned a kind now_denied

    pub granted-rotated : is_granted (decision (rotated unit (first_serving a kind (plan_of cfg owners b.0 part))).pairs a kind) ≡ holds cfg owners b.0 a 1 kind
    granted-rotated =
        ap (λ ps. is_granted (decision ps a kind)) (pairs_are (first_serving a kind (plan_of cfg owners b.0 part)) ∙ sym touched)
        ∙ is_granted-recovered cfg owners b.0 part (IsPlaced-from_sound cfg it b.0 part found) found now_all unit.pairs turned a kind now_denied unit.circle now_ready.on
      where
        pairs_are : (o : Option Pair) → (rotated unit o).pairs ≡ option_map_or (slice_set unit.pairs unit.circle) o unit.pairs
        pairs_are None = refl
        pairs_are (Some p) = refl

        touched : touched_pairs (plan_of cfg owners b.0 part) unit.pairs unit.circle a kind ≡ option_map_or (slice_set unit.pairs unit.circle) (first_serving a kind (plan_of cfg owners b.0 part)) unit.pairs
        touched = rw now_denied refl

  -- the state after a rotation
  pub rotation-rotated : (p : Pair) → record { homes = r.homes; heap = r.heap; unit = record { last = r.unit.last; pairs = slice_set r.unit.pairs r.unit.circle p; circle = next_slot REGIONS r.unit.circle } } ≡ rotation_of cfg (rotated unit (Some p))
  rotation-rotated p =
      ap (λ (x : Rotation). rotation_with x p) is
      ∙ ap (λ n. rotation_of cfg (record { last = unit.last; pairs = slice_set unit.pairs unit.circle p; circle = next_slot n unit.circle })) (sym now_ready.regions)
