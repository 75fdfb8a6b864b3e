use Rattle.std.proofs.Common.{◌≡◌, ◌-◌, ◌*◌, ◌≤◌, length, sym, ap, ◌∙◌, arith}
use Rattle.phys_memory.specs.OneBank.{with_bytes}
use Rattle.phys_memory.proofs.PackedLemmas.{length-bytes_of, zero-pieces-is}
use Rattle.phys_memory.proofs.bank.Bank.zero_pieces.Goals as goal

pub clear-requires-clause-within : goal.clear-requires-clause-within
clear-requires-clause-within c =
    let it = c.self.inside in
    let long : length c.args.self.now ≡ it.len = sym (ap length c.self.view_is) ∙ length-bytes_of it.len it.words in
    omega (arith, long, c.requires.inside, c.self.invariant.0)

pub returns : goal.returns
returns c =
    let it = c.self.inside in
    let long : length c.args.self.now ≡ it.len = sym (ap length c.self.view_is) ∙ length-bytes_of it.len it.words in
    let fits : 32 * c.args.to ≤ it.len = omega (arith, long, c.requires.inside) in
    zero-pieces-is it.len it.words c.clear.new.self c.args.from c.args.to c.requires.order fits c.self.invariant.0 c.clear.ensures.inside c.clear.ensures.others
    ∙ ap (λ xs. with_bytes xs (32 * c.args.from) (32 * c.args.to - 32 * c.args.from) 0) c.self.view_is
