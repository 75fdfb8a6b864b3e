use Rattle.std.proofs.Common.{◌≡◌, ◌≤◌, take}
use Rattle.flat_model.specs.Calls as call_words
use Rattle.flat_model.proofs.calls.posted_count.Given as goal

abbrev pub invariant-loop-call : goal.invariant-loop-call
invariant-loop-call l = record {
  so_far : l.count ≡ call_words.posted_count l.b.0 (take l.call-index l.calls);
  few : l.count ≤ l.call-index;
}
