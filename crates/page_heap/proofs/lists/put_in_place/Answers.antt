use Rattle.std.proofs.Common.{◌≡◌, ◌≢◌, ℕ, ◌+◌, ◌<◌, ◌≤◌, Bool, true, false, not, ltb, Option, Some, None, IfSome, length, slice_get, sym, ap, ◌∙◌, subst, arith}
use Rattle.std.proofs.lemmas.Bool.{and_parts, ltb-true, not-true}
use Rattle.index_list.specs.Arena.{ArenaView, list_at, list_with, with_last, without_first}
use Rattle.index_list.proofs.Alone.{last_alone, rest_alone}
use Rattle.page_heap.proofs.Turn.{IsTurning, IsTurning-now, IsTurning-on, IsTurning-place, IsTurning-start, first_stays, turned_last}
use Rattle.page_heap.proofs.lists.put_in_place.Goals.{then-comes_before, else-comes_before}
use Rattle.page_heap.proofs.lists.put_in_place.Goals as goal

pub loop-init : goal.loop-init
loop-init c = IsTurning-start c.args.frames.now c.args.frame c.requires.lists c.requires.alone

pub push_back-requires-clause-free : goal.push_back-requires-clause-free
push_back-requires-clause-free c =
    let frame = c.args.frame in
    let parts = and_parts (not c.loop.placed) (ltb frame c.unwrap-first.result)
    (sym c.comes_before.ensures ∙ c.if-comes_before.true) in
    let alone = c.loop.invariant.alone (not-true c.loop.placed parts.0) in
    ap (λ (v : ArenaView). list_with v.lists frame) c.pop_front.ensures.rest
    ∙ rest_alone c.loop.frames.lists 256 frame alone

pub push_back-requires-in-loop-clause-free : goal.push_back-requires-in-loop-clause-free
push_back-requires-in-loop-clause-free c =
    let frame = c.args.frame in
    let first = c.unwrap-first.result in
    let popped = c.pop_front.new.self in
    let free = subst (λ (o : Option ℕ). IfSome o (λ node. (node < popped.nodes) × (list_with popped.lists node ≡ None)))
    c.unwrap-first.ensures c.pop_front.ensures.free in
    elim c.if-comes_before.branch [
      | then-comes_before w ↦
          let parts = and_parts (not c.loop.placed) (ltb frame first) (sym c.comes_before.ensures ∙ w.if-comes_before.true) in
          let less : frame < first = ltb-true frame first parts.1 in
          let apart : first ≢ frame = λ e. absurd (omega arith) in
          ap (λ (v : ArenaView). list_with v.lists first) (w.frames-is ∙ w.push_back.ensures)
          ∙ last_alone popped.lists 256 first frame free.1 apart
      | else-comes_before w ↦ ap (λ (v : ArenaView). list_with v.lists first) w.frames-is ∙ free.1
    ]

pub loop-preserved : goal.loop-preserved
loop-preserved c =
    let before = c.args.frames.now in
    let frame = c.args.frame in
    let first = c.unwrap-first.result in
    let at = c.loop.counter in
    let within : at < length (list_at before.lists 256) = omega arith in
    let is : slice_get (list_at c.loop.frames.lists 256) 0 ≡ Some first =
    sym c.pop_front.ensures.first ∙ c.unwrap-first.ensures in
    elim c.if-comes_before.branch [
      | then-comes_before w ↦
          let parts = and_parts (not c.loop.placed) (ltb frame first) (sym c.comes_before.ensures ∙ w.if-comes_before.true) in
          let less : frame < first = ltb-true frame first parts.1 in
          let start = subst (λ (p : Bool). IsTurning before c.loop.frames frame p at) (not-true c.loop.placed parts.0) c.loop.invariant in
          let arena = c.push_back-in-loop.ensures
          ∙ ap (λ (a : ArenaView). with_last a 256 first) (w.frames-is ∙ w.push_back.ensures
          ∙ ap (λ (a : ArenaView). with_last a 256 frame) c.pop_front.ensures.rest) in
          IsTurning-now before (with_last (with_last (without_first c.loop.frames 256) 256 frame) 256 first)
          c.push_back-in-loop.new.self frame true c.if-comes_before.placed (at + 1) arena w.placed-is
          (IsTurning-place before c.loop.frames frame first at c.requires.lists start within is less)
      | else-comes_before w ↦
          let arena = c.push_back-in-loop.ensures
          ∙ ap (λ (a : ArenaView). with_last a 256 first) (w.frames-is ∙ c.pop_front.ensures.rest) in
          IsTurning-now before (with_last (without_first c.loop.frames 256) 256 first)
          c.push_back-in-loop.new.self frame c.loop.placed c.if-comes_before.placed (at + 1) arena w.placed-is
          (IsTurning-on before c.loop.frames frame first c.loop.placed at c.requires.lists c.loop.invariant within is
          (first_stays c.loop.placed frame first (sym c.comes_before.ensures ∙ w.if-comes_before.false)))
    ]

pub returns-then-not-placed : goal.returns-then-not-placed
returns-then-not-placed c =
    let before = c.args.frames.now in
    let frame = c.args.frame in
    let at = c.loop.counter in
    let past : length (list_at before.lists 256) ≤ at = omega arith in
    let off : c.loop.placed ≡ false = c.if-not-placed.true in
    let start = subst (λ (p : Bool). IsTurning before c.loop.frames frame p at) off c.loop.invariant in
    c.push_back-then-not-placed.ensures ∙ turned_last before c.loop.frames frame at c.requires.lists start past
