use Rattle.std.proofs.Common.{◌≡◌, ◌-◌, ◌≤◌, length, replicate}
use Rattle.flat_model.proofs.opening.zero_bytes.Given as goal

abbrev pub invariant-blocks-2 : goal.invariant-blocks-2
invariant-blocks-2 l = record {
  zeros : l.zeros.items ≡ replicate 1024 0;
  bytes : l.bytes.items ≡ replicate (length l.bytes.items) 0;
  within : length l.bytes.items ≤ l.n;
}

abbrev pub decreases-blocks-2 : goal.decreases-blocks-2
decreases-blocks-2 l = l.n - length l.bytes.items
