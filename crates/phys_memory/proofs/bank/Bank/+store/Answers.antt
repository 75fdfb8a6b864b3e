use Rattle.std.proofs.Common.{◌≡◌, length, sym, ap, ◌∙◌, arith}
use Rattle.phys_memory.proofs.PackedLemmas.{length-bytes_of}
use Rattle.phys_memory.proofs.bank.Bank.+store.Goals as goal

pub overflow_add-at : goal.overflow_add-at
overflow_add-at t c =
    let it = c.self.inside in
    let long : length c.args.self.now ≡ it.len = sym (ap length c.self.view_is) ∙ length-bytes_of it.len it.words in
    omega (arith, long, c.requires.inside, c.self.invariant.1)
