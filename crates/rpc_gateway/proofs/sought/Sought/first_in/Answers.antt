use Rattle.std.proofs.Common.{◌≡◌, Some, List, ℕ, sym, ◌∙◌, arith}
use Rattle.std.specs.List.{slice_get}
use Rattle.std.proofs.lemmas.Option.{get_or_from_slice_get, slice_get_within}
use Rattle.index_list.specs.Arena.{list_at}
use Rattle.rpc_gateway.specs.Places.{passes_at}
use Rattle.rpc_gateway.specs.Sought.{fits}
use Rattle.rpc_gateway.proofs.FirstPlaces.{walk_ended, walk_found, walk_missed, walk_on}
use Rattle.rpc_gateway.proofs.sought.Sought.first_in.Goals as goal

pub next-at-requires : goal.next-at-requires
next-at-requires c =
    let ns : List ℕ = list_at c.args.arena.now.lists c.args.list in
    let is : slice_get (list_at c.args.arena.now.lists c.args.list) c.loop-step._step ≡ Some c.in_ok-place.place = sym c.loop-step.invariant.here ∙ c.in_ok-place.was in
    let within = slice_get_within ns c.loop-step._step c.in_ok-place.place is in
    let below = c.requires.within c.loop-step._step 0 within in
    let same = get_or_from_slice_get ns c.loop-step._step c.in_ok-place.place 0 is in
    omega (arith, below, same, c.requires.nodes)

pub loop-step-preserved : goal.loop-step-preserved
loop-step-preserved c =
    let is : slice_get (list_at c.args.arena.now.lists c.args.list) c.loop-step._step ≡ Some c.in_ok-place.place = sym c.loop-step.invariant.here ∙ c.in_ok-place.was in
    record {
      here = c.next-at.ensures.follows c.args.list c.loop-step._step is;
      rest = walk_on (passes_at (fits c.args.self) c.args.calls.now) (list_at c.args.arena.now.lists c.args.list) c.loop-step._step c.loop-step.invariant.rest c.in_ok-place.place is (sym c.fits_at.ensures ∙ c.if-fits_at.false);
    }

pub returns-in_err-place : goal.returns-in_err-place
returns-in_err-place c =
    c.from_residual.ensures
    ∙ walk_missed (passes_at (fits c.args.self) c.args.calls.now) (list_at c.args.arena.now.lists c.args.list) c.loop-step._step c.loop-step.invariant.rest
    (sym c.loop-step.invariant.here ∙ c.in_err-place.was)

pub returns-then-fits_at : goal.returns-then-fits_at
returns-then-fits_at c =
    walk_found (passes_at (fits c.args.self) c.args.calls.now) (list_at c.args.arena.now.lists c.args.list) c.loop-step._step c.loop-step.invariant.rest c.in_ok-place.place
    (sym c.loop-step.invariant.here ∙ c.in_ok-place.was) (sym c.fits_at.ensures ∙ c.if-fits_at.true)

pub returns : goal.returns
returns c =
    walk_ended (passes_at (fits c.args.self) c.args.calls.now) (list_at c.args.arena.now.lists c.args.list) c.loop-step._step c.loop-step.invariant.rest
    (omega (arith, c.requires.few))
