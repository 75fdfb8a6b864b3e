use Rattle.std.proofs.Common.{◌+◌, ◌-◌, length, sym, ap, ◌∙◌}
use Rattle.phys_memory.specs.OneBank.{with_bytes}
use Rattle.phys_memory.proofs.PackedLemmas.{length-with_bytes, zeros-more}
use Rattle.phys_memory.proofs.bank.Bank.zero_bytes.Goals as goal

pub loop-at-preserved : goal.loop-at-preserved
loop-at-preserved c = record {
  long = ap length c.store.ensures ∙ length-with_bytes c.loop-at.self c.loop-at.at 1 0 ∙ c.loop-at.invariant.long;
  left = c.loop-at.invariant.left
      ∙ zeros-more c.loop-at.self c.loop-at.at c.args.to c.loop-at-test.true
      ∙ ap (λ xs. with_bytes xs (c.loop-at.at + 1) (c.args.to - (c.loop-at.at + 1)) 0) (sym c.store.ensures);
}
