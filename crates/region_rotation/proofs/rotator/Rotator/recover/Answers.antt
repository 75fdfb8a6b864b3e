use Rattle.std.proofs.Common.{◌≡◌, Some, None, set, refl, sym, ◌∙◌, ap, subst}
use Rattle.std.specs.Prelude.{is_some, slice_set}
use Rattle.addr_base.specs.declared.pairs.Verdict.TheVariants.{Denied}
use Rattle.flat_model.specs.Decision.{decision, is_granted}
use Rattle.flat_model.specs.Plan.{first_serving, plan_of}
use Rattle.flat_model.specs.UnitRun.{rotated}
use Rattle.flat_model.proofs.Elements.{each-get}
use Rattle.flat_model.specs.Pages.{HasOwners}
use Rattle.region_rotation.specs.Directories.{AreDirectories}
use Rattle.region_rotation.specs.Ready.{IsHome, IsReady}
use Rattle.region_rotation.specs.Rotation.{Rotation, rotation_of}
use Rattle.region_rotation.proofs.Searched.{AreDirectories-set, IsSearched, IsSearched-from, directory_below}
use Rattle.region_rotation.proofs.Turns.{IsReady-rotated, granted-rotated, held-recovered, known_planned, rotation-rotated, same_first}
use Rattle.region_rotation.proofs.rotator.Rotator.recover.Goals as goal

pub load-requires-clause-known : goal.load-requires-clause-known
load-requires-clause-known c =
    let it = c.self.inside in
    let s : IsSearched it.homes.items it.heap c.unwrap-b.result c.args.a c.args.kind c.args.owners.now.items (Some c.in-Some.pair) =
    IsSearched-from it.homes.items it.directories.items it.heap it.last c.unwrap-b.result c.from.result c.index_mut-directory.result.now c.args.a c.args.kind
    c.args.owners.now.items c.as_slice.result.now c.serving.result (Some c.in-Some.pair) c.self.invariant.0.last_known c.unwrap-b.ensures c.from.ensures
    c.self.invariant.1 c.index_mut-directory.ensures.value c.serving.ensures.exact c.as_slice.ensures.value c.in-Some.is in
    known_planned it.heap s.home c.unwrap-b.result.0 c.args.owners.now.items c.args.a c.args.kind c.in-Some.pair c.self.invariant.0.heap_known
    (each-get IsHome it.homes.items c.unwrap-b.result.0 s.home c.self.invariant.0.homes_known s.at) s.first

pub invariant_of-self : goal.invariant_of-self
invariant_of-self c =
    let it = c.self.inside in
    let below = directory_below it.homes.items it.directories.items it.last c.unwrap-b.result c.from.result c.self.invariant.0.last_known c.unwrap-b.ensures c.from.ensures c.self.invariant.1 in
    let kept : AreDirectories it.homes.items (set it.directories.items c.from.result c.serving.new.directory) =
    AreDirectories-set it.homes.items it.directories.items c.from.result c.index_mut-directory.result.now c.serving.new.directory c.self.invariant.1 below
    c.index_mut-directory.ensures.value c.serving.ensures.blocks in
    (c.self.invariant.0, kept)

pub invariant_of-self-2 : goal.invariant_of-self-2
invariant_of-self-2 c =
    let it = c.self.inside in
    let s : IsSearched it.homes.items it.heap c.unwrap-b.result c.args.a c.args.kind c.args.owners.now.items (Some c.in-Some.pair) =
    IsSearched-from it.homes.items it.directories.items it.heap it.last c.unwrap-b.result c.from.result c.index_mut-directory.result.now c.args.a c.args.kind
    c.args.owners.now.items c.as_slice.result.now c.serving.result (Some c.in-Some.pair) c.self.invariant.0.last_known c.unwrap-b.ensures c.from.ensures
    c.self.invariant.1 c.index_mut-directory.ensures.value c.serving.ensures.exact c.as_slice.ensures.value c.in-Some.is in
    let below = directory_below it.homes.items it.directories.items it.last c.unwrap-b.result c.from.result c.self.invariant.0.last_known c.unwrap-b.ensures c.from.ensures c.self.invariant.1 in
    let kept : AreDirectories it.homes.items (set it.directories.items c.from.result c.serving.new.directory) =
    AreDirectories-set it.homes.items it.directories.items c.from.result c.index_mut-directory.result.now c.serving.new.directory c.self.invariant.1 below
    c.index_mut-directory.ensures.value c.serving.ensures.blocks in
    let ready : IsReady it.homes.items it.heap (Some c.unwrap-b.result) it.unit it.circle =
    subst (λ l. IsReady it.homes.items it.heap l it.unit it.circle) c.unwrap-b.ensures c.self.invariant.0 in (
      rw (c.load.ensures, c.next_of-self-inside.ensures, c.unwrap-b.ensures)
          (IsReady-rotated it.homes.items it.heap c.unwrap-b.result it.unit it.circle s.home c.args.owners.now.items c.in-Some.pair c.args.a c.args.kind ready s.at s.first),
      kept,
    )

pub returns-clause-run : goal.returns-clause-run
returns-clause-run c = λ cfg b part unit is last found.
    let it = c.self.inside in
    let s : IsSearched it.homes.items it.heap c.unwrap-b.result c.args.a c.args.kind c.args.owners.now.items (Some c.in-Some.pair) =
    IsSearched-from it.homes.items it.directories.items it.heap it.last c.unwrap-b.result c.from.result c.index_mut-directory.result.now c.args.a c.args.kind
    c.args.owners.now.items c.as_slice.result.now c.serving.result (Some c.in-Some.pair) c.self.invariant.0.last_known c.unwrap-b.ensures c.from.ensures
    c.self.invariant.1 c.index_mut-directory.ensures.value c.serving.ensures.exact c.as_slice.ensures.value c.in-Some.is in
    let r : Rotation = record { homes = it.homes.items; heap = it.heap; unit = record { last = it.last; pairs = it.unit; circle = it.circle } } in
    let now : r ≡ rotation_of cfg unit = c.self.view_is ∙ is in
    let planned : first_serving c.args.a c.args.kind (plan_of cfg c.args.owners.now.items b.0 part) ≡ Some c.in-Some.pair =
    sym (same_first cfg unit b part c.args.owners.now.items c.args.a c.args.kind r now c.self.invariant.0 last found c.unwrap-b.result s.home c.unwrap-b.ensures s.at) ∙ s.first in
    let after = rotation-rotated cfg unit b part c.args.owners.now.items c.args.a c.args.kind r now c.self.invariant.0 last found c.in-Some.pair in (
      rw (c.load.ensures, c.next_of-self-inside.ensures, planned) after,
      rw planned (ap (λ (x : Rotation). Some (record { slot = x.unit.circle; pair = c.in-Some.pair })) now),
    )

pub returns-clause-held : goal.returns-clause-held
returns-clause-held c = λ cfg b part unit is last found sound.
    let it = c.self.inside in
    let s : IsSearched it.homes.items it.heap c.unwrap-b.result c.args.a c.args.kind c.args.owners.now.items (Some c.in-Some.pair) =
    IsSearched-from it.homes.items it.directories.items it.heap it.last c.unwrap-b.result c.from.result c.index_mut-directory.result.now c.args.a c.args.kind
    c.args.owners.now.items c.as_slice.result.now c.serving.result (Some c.in-Some.pair) c.self.invariant.0.last_known c.unwrap-b.ensures c.from.ensures
    c.self.invariant.1 c.index_mut-directory.ensures.value c.serving.ensures.exact c.as_slice.ensures.value c.in-Some.is in
    let r : Rotation = record { homes = it.homes.items; heap = it.heap; unit = record { last = it.last; pairs = it.unit; circle = it.circle } } in
    let now : r ≡ rotation_of cfg unit = c.self.view_is ∙ is in
    let planned : first_serving c.args.a c.args.kind (plan_of cfg c.args.owners.now.items b.0 part) ≡ Some c.in-Some.pair =
    sym (same_first cfg unit b part c.args.owners.now.items c.args.a c.args.kind r now c.self.invariant.0 last found c.unwrap-b.result s.home c.unwrap-b.ensures s.at) ∙ s.first in
    let denied : decision it.unit c.args.a c.args.kind ≡ Denied = subst (λ (v : Rotation). decision v.unit.pairs c.args.a c.args.kind ≡ Denied) (sym c.self.view_is) c.requires.denied in
    let all : HasOwners it.heap c.args.owners.now.items = subst (λ (v : Rotation). HasOwners v.heap c.args.owners.now.items) (sym c.self.view_is) c.requires.owners in
    sym (ap is_some planned) ∙ held-recovered cfg unit b part c.args.owners.now.items c.args.a c.args.kind r now c.self.invariant.0 last found denied all sound

pub returns-clause-granted : goal.returns-clause-granted
returns-clause-granted c = λ cfg b part unit is last found sound.
    let it = c.self.inside in
    let s : IsSearched it.homes.items it.heap c.unwrap-b.result c.args.a c.args.kind c.args.owners.now.items (Some c.in-Some.pair) =
    IsSearched-from it.homes.items it.directories.items it.heap it.last c.unwrap-b.result c.from.result c.index_mut-directory.result.now c.args.a c.args.kind
    c.args.owners.now.items c.as_slice.result.now c.serving.result (Some c.in-Some.pair) c.self.invariant.0.last_known c.unwrap-b.ensures c.from.ensures
    c.self.invariant.1 c.index_mut-directory.ensures.value c.serving.ensures.exact c.as_slice.ensures.value c.in-Some.is in
    let r : Rotation = record { homes = it.homes.items; heap = it.heap; unit = record { last = it.last; pairs = it.unit; circle = it.circle } } in
    let now : r ≡ rotation_of cfg unit = c.self.view_is ∙ is in
    let planned : first_serving c.args.a c.args.kind (plan_of cfg c.args.owners.now.items b.0 part) ≡ Some c.in-Some.pair =
    sym (same_first cfg unit b part c.args.owners.now.items c.args.a c.args.kind r now c.self.invariant.0 last found c.unwrap-b.result s.home c.unwrap-b.ensures s.at) ∙ s.first in
    let denied : decision it.unit c.args.a c.args.kind ≡ Denied = subst (λ (v : Rotation). decision v.unit.pairs c.args.a c.args.kind ≡ Denied) (sym c.self.view_is) c.requires.denied in
    let all : HasOwners it.heap c.args.owners.now.items = subst (λ (v : Rotation). HasOwners v.heap c.args.owners.now.items) (sym c.self.view_is) c.requires.owners in
    let after : c.load.new.unit ≡ (rotated unit (first_serving c.args.a c.args.kind (plan_of cfg c.args.owners.now.items b.0 part))).pairs =
    c.load.ensures ∙ ap (λ (x : Rotation). slice_set x.unit.pairs x.unit.circle c.in-Some.pair) now ∙ ap (λ o. (rotated unit o).pairs) (sym planned) in
    ap (λ ps. is_granted (decision ps c.args.a c.args.kind)) after ∙ granted-rotated cfg unit b part c.args.owners.now.items c.args.a c.args.kind r now c.self.invariant.0 last found denied all sound

pub returns-in_default-clause-run : goal.returns-in_default-clause-run
returns-in_default-clause-run c = λ cfg b part unit is last found.
    let it = c.self.inside in
    let s : IsSearched it.homes.items it.heap c.unwrap-b.result c.args.a c.args.kind c.args.owners.now.items None =
    IsSearched-from it.homes.items it.directories.items it.heap it.last c.unwrap-b.result c.from.result c.index_mut-directory.result.now c.args.a c.args.kind
    c.args.owners.now.items c.as_slice.result.now c.serving.result None c.self.invariant.0.last_known c.unwrap-b.ensures c.from.ensures
    c.self.invariant.1 c.index_mut-directory.ensures.value c.serving.ensures.exact c.as_slice.ensures.value c.in_default.is in
    let r : Rotation = record { homes = it.homes.items; heap = it.heap; unit = record { last = it.last; pairs = it.unit; circle = it.circle } } in
    let now : r ≡ rotation_of cfg unit = c.self.view_is ∙ is in
    let planned : first_serving c.args.a c.args.kind (plan_of cfg c.args.owners.now.items b.0 part) ≡ None =
    sym (same_first cfg unit b part c.args.owners.now.items c.args.a c.args.kind r now c.self.invariant.0 last found c.unwrap-b.result s.home c.unwrap-b.ensures s.at) ∙ s.first in
    rw planned (now, refl)

pub returns-in_default-clause-held : goal.returns-in_default-clause-held
returns-in_default-clause-held c = λ cfg b part unit is last found sound.
    let it = c.self.inside in
    let s : IsSearched it.homes.items it.heap c.unwrap-b.result c.args.a c.args.kind c.args.owners.now.items None =
    IsSearched-from it.homes.items it.directories.items it.heap it.last c.unwrap-b.result c.from.result c.index_mut-directory.result.now c.args.a c.args.kind
    c.args.owners.now.items c.as_slice.result.now c.serving.result None c.self.invariant.0.last_known c.unwrap-b.ensures c.from.ensures
    c.self.invariant.1 c.index_mut-directory.ensures.value c.serving.ensures.exact c.as_slice.ensures.value c.in_default.is in
    let r : Rotation = record { homes = it.homes.items; heap = it.heap; unit = record { last = it.last; pairs = it.unit; circle = it.circle } } in
    let now : r ≡ rotation_of cfg unit = c.self.view_is ∙ is in
    let planned : first_serving c.args.a c.args.kind (plan_of cfg c.args.owners.now.items b.0 part) ≡ None =
    sym (same_first cfg unit b part c.args.owners.now.items c.args.a c.args.kind r now c.self.invariant.0 last found c.unwrap-b.result s.home c.unwrap-b.ensures s.at) ∙ s.first in
    let denied : decision it.unit c.args.a c.args.kind ≡ Denied = subst (λ (v : Rotation). decision v.unit.pairs c.args.a c.args.kind ≡ Denied) (sym c.self.view_is) c.requires.denied in
    let all : HasOwners it.heap c.args.owners.now.items = subst (λ (v : Rotation). HasOwners v.heap c.args.owners.now.items) (sym c.self.view_is) c.requires.owners in
    sym (ap is_some planned) ∙ held-recovered cfg unit b part c.args.owners.now.items c.args.a c.args.kind r now c.self.invariant.0 last found denied all sound

pub returns-in_default-clause-granted : goal.returns-in_default-clause-granted
returns-in_default-clause-granted c = λ cfg b part unit is last found sound.
    let it = c.self.inside in
    let s : IsSearched it.homes.items it.heap c.unwrap-b.result c.args.a c.args.kind c.args.owners.now.items None =
    IsSearched-from it.homes.items it.directories.items it.heap it.last c.unwrap-b.result c.from.result c.index_mut-directory.result.now c.args.a c.args.kind
    c.args.owners.now.items c.as_slice.result.now c.serving.result None c.self.invariant.0.last_known c.unwrap-b.ensures c.from.ensures
    c.self.invariant.1 c.index_mut-directory.ensures.value c.serving.ensures.exact c.as_slice.ensures.value c.in_default.is in
    let r : Rotation = record { homes = it.homes.items; heap = it.heap; unit = record { last = it.last; pairs = it.unit; circle = it.circle } } in
    let now : r ≡ rotation_of cfg unit = c.self.view_is ∙ is in
    let planned : first_serving c.args.a c.args.kind (plan_of cfg c.args.owners.now.items b.0 part) ≡ None =
    sym (same_first cfg unit b part c.args.owners.now.items c.args.a c.args.kind r now c.self.invariant.0 last found c.unwrap-b.result s.home c.unwrap-b.ensures s.at) ∙ s.first in
    let denied : decision it.unit c.args.a c.args.kind ≡ Denied = subst (λ (v : Rotation). decision v.unit.pairs c.args.a c.args.kind ≡ Denied) (sym c.self.view_is) c.requires.denied in
    let all : HasOwners it.heap c.args.owners.now.items = subst (λ (v : Rotation). HasOwners v.heap c.args.owners.now.items) (sym c.self.view_is) c.requires.owners in
    let after : it.unit ≡ (rotated unit (first_serving c.args.a c.args.kind (plan_of cfg c.args.owners.now.items b.0 part))).pairs =
    ap (λ (x : Rotation). x.unit.pairs) now ∙ ap (λ o. (rotated unit o).pairs) (sym planned) in
    ap (λ ps. is_granted (decision ps c.args.a c.args.kind)) after ∙ granted-rotated cfg unit b part c.args.owners.now.items c.args.a c.args.kind r now c.self.invariant.0 last found denied all sound
