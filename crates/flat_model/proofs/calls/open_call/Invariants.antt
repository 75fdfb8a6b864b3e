use Rattle.std.proofs.Common.{◌≡◌, drop}
use Rattle.flat_model.specs.Calls as call_words
use Rattle.flat_model.proofs.calls.open_call.Given as goal

abbrev pub invariant-loop-call : goal.invariant-loop-call
invariant-loop-call l =
    call_words.open_call l.ticket l.calls ≡ call_words.open_call l.ticket (drop l.call-index l.calls)
