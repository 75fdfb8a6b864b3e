use Rattle.std.proofs.Common.{◌≡◌, ◌+◌, ◌<◌, Some, ◌∷◌, [], ◌++◌, length, slice_get, slice_set, sym, ap, ◌∙◌, arith}
use Rattle.flat_model.specs.Pages.{free_frames}
use Rattle.index_list.specs.Arena.{ArenaView, list_at, with_last, without_first}
use Rattle.page_heap.proofs.FreeFrames.{with_owner_length, within_owners}
use Rattle.page_heap.proofs.GivenFrames.{IsGiving-more, IsGiving-now, IsGiving-start}
use Rattle.page_heap.proofs.lists.give_least.Goals as goal

pub loop-init : goal.loop-init
loop-init c =
    IsGiving-start c.args.owners.now c.args.frames.now c.args.b c.args.out.now.items c.requires.listed c.requires.empty

pub loop-preserved : goal.loop-preserved
loop-preserved c =
    let before = c.args.owners.now in
    let b = c.args.b in
    let at = c.loop.counter in
    let frame = c.unwrap-frame.result in
    let within : at < length (free_frames 0 before) = omega arith in
    let small : b.0 < 256 = omega arith in
    let is : slice_get (list_at c.loop.frames.lists 256) 0 ≡ Some frame =
    sym c.pop_front.ensures.first ∙ c.unwrap-frame.ensures in
    let arena = c.push_back.ensures ∙ ap (λ (a : ArenaView). with_last a b.0 frame) c.pop_front.ensures.rest in
    IsGiving-now before (slice_set c.loop.owners frame (Some b)) c.put.new.self
    (with_last (without_first c.loop.frames 256) b.0 frame) c.push_back.new.self b (c.loop.out.items ++ frame ∷ [])
    c.push.new.self.items (at + 1) c.put.ensures arena c.push.ensures.items
    (IsGiving-more before c.loop.owners c.loop.frames b c.loop.out.items at frame c.loop.invariant small within is)

pub returns-clause-one_each : goal.returns-clause-one_each
returns-clause-one_each c =
    ap length c.loop.invariant.given ∙ with_owner_length (Some c.args.b) c.loop.out.items c.args.owners.now

pub returns-clause-within : goal.returns-clause-within
returns-clause-within c =
    within_owners c.args.owners.now c.loop.counter c.loop.out.items c.loop.invariant.least
