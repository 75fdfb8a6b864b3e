use Rattle.std.proofs.Common.{ap, ◌∙◌, arith}
use Rattle.std.specs.Prelude.{set}
use Rattle.std.proofs.lemmas.List.Edits.{map_over_more}
use Rattle.flat_model.specs.Calls.{in_state}
use Rattle.flat_model.proofs.calls.CallList.set_state.Goals as goal

pub loop-index-preserved : goal.loop-index-preserved
loop-index-preserved c = record {
  calls =
      ap (set c.loop-index.self-inside.calls.items c.loop-index.index) c.in_state.ensures
      ∙ map_over_more (in_state c.args.ticket c.args.state) c.self.inside.calls.items c.loop-index.self-inside.calls.items
      c.loop-index.index c.index-call.result.now (omega (arith, c.loop-index-test.true, c.len-index-end.ensures))
      c.loop-index.invariant.calls c.index-call.ensures;
  capacity = c.loop-index.invariant.capacity;
}
