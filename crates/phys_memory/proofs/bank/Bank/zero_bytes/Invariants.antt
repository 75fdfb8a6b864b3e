use Rattle.std.proofs.Common.{◌≡◌, ◌-◌, length}
use Rattle.phys_memory.specs.OneBank.{with_bytes}
use Rattle.phys_memory.proofs.bank.Bank.zero_bytes.Given as goal

abbrev pub invariant-loop-at : goal.invariant-loop-at
invariant-loop-at l = record {
  long : length l.self ≡ length l.fn.self;
  left : with_bytes l.fn.self l.fn.from (l.fn.to - l.fn.from) 0 ≡ with_bytes l.self l.at (l.fn.to - l.at) 0;
}
