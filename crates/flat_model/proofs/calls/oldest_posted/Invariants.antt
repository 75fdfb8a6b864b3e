use Rattle.std.proofs.Common.{◌≡◌, drop}
use Rattle.flat_model.specs.Calls as call_words
use Rattle.flat_model.proofs.calls.oldest_posted.Given as goal

abbrev pub invariant-loop-call : goal.invariant-loop-call
invariant-loop-call l =
    call_words.oldest_posted l.b.0 l.calls ≡ call_words.oldest_posted l.b.0 (drop l.call-index l.calls)
