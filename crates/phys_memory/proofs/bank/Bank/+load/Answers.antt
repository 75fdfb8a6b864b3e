use Rattle.std.proofs.Common.{◌≡◌, ◌+◌, ◌%◌, ◌^◌, ◌<◌, ◌≤◌, length, get_or, sym, ap, ◌∙◌, subst, arith}
use Rattle.flat_model.specs.Cells.{word_of}
use Rattle.flat_model.proofs.Widths.{word_fits}
use Rattle.phys_memory.proofs.PackedLemmas.{length-bytes_of, part-bound}
use Rattle.phys_memory.proofs.bank.Bank.+load.Goals as goal

pub overflow_add-at : goal.overflow_add-at
overflow_add-at t c =
    let it = c.self.inside in
    let long : length c.args.self.now ≡ it.len = sym (ap length c.self.view_is) ∙ length-bytes_of it.len it.words in
    omega (arith, long, c.requires.inside, c.self.invariant.1)

pub overflow_mul-result : goal.overflow_mul-result
overflow_mul-result t c =
    omega (arith, word_fits c.args.n c.load-low.result c.load.result c.requires.small c.load-low.ensures.bound c.load.ensures.bound)

pub overflow_add-result : goal.overflow_add-result
overflow_add-result t c =
    omega (arith, word_fits c.args.n c.load-low.result c.load.result c.requires.small c.load-low.ensures.bound c.load.ensures.bound)

pub returns-then-first-n-le4-clause-bound : goal.returns-then-first-n-le4-clause-bound
returns-then-first-n-le4-clause-bound t c =
    let it = c.self.inside in
    let long : length c.args.self.now ≡ it.len = sym (ap length c.self.view_is) ∙ length-bytes_of it.len it.words in
    let inside : c.args.at + c.args.n ≤ it.len = omega (arith, long, c.requires.inside) in
    let one : c.args.at % 4 + c.args.n ≤ 4 = omega (arith, c.if-first-n-le4.true) in
    subst (λ x. x < 256 ^ c.args.n) (sym c.part.ensures)
    (subst (λ xs. word_of (λ i. get_or xs i 0) c.args.at c.args.n < 256 ^ c.args.n) c.self.view_is (part-bound it.len it.words c.args.at c.args.n one inside))
