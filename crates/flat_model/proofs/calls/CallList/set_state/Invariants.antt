use Rattle.std.proofs.Common.{◌≡◌, ◌++◌, drop, take}
use Rattle.std.specs.Prelude.{vec_capacity}
use Rattle.flat_model.specs.Calls as call_words
use Rattle.flat_model.proofs.calls.CallList.set_state.Given as goal

abbrev pub invariant-loop-index : goal.invariant-loop-index
invariant-loop-index l = record {
  calls : l.self-inside.calls.items
      ≡ call_words.with_state l.ticket l.state (take l.index l.initial.self-inside.calls.items)
      ++ drop l.index l.initial.self-inside.calls.items;
  capacity : vec_capacity l.self-inside.calls ≡ vec_capacity l.initial.self-inside.calls;
}
