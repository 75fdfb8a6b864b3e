use Rattle.std.proofs.Common.{◌≡◌, ◌+◌, ◌%◌, ◌/◌, ◌^◌, ◌<◌, ◌≤◌, length, get_or, sym, ap, ◌∙◌, subst, arith}
use Rattle.flat_model.specs.Cells.{word_of}
use Rattle.phys_memory.specs.Packed.{low, shifted}
use Rattle.phys_memory.proofs.PackedLemmas.{length-bytes_of, part-is, whole-is}
use Rattle.phys_memory.proofs.bank.Bank.part.Goals as goal

pub get-word-requires : goal.get-word-requires
get-word-requires c =
    let it = c.self.inside in
    let long : length c.args.self.now ≡ it.len = sym (ap length c.self.view_is) ∙ length-bytes_of it.len it.words in
    omega (arith, long, c.requires.inside, c.requires.some, c.self.invariant.0)

pub returns-then-n-lt4 : goal.returns-then-n-lt4
returns-then-n-lt4 c =
    let it = c.self.inside in
    let long : length c.args.self.now ≡ it.len = sym (ap length c.self.view_is) ∙ length-bytes_of it.len it.words in
    let inside : c.args.at + c.args.n ≤ it.len = omega (arith, long, c.requires.inside) in
    c.low.ensures ∙ ap (λ x. low x c.args.n) (c.shifted.ensures ∙ ap (λ x. shifted x (c.args.at % 4)) c.get-word.ensures)
    ∙ sym (part-is it.len it.words c.args.at c.args.n c.requires.one inside)
    ∙ ap (λ xs. word_of (λ i. get_or xs i 0) c.args.at c.args.n) c.self.view_is

pub returns-else-n-lt4 : goal.returns-else-n-lt4
returns-else-n-lt4 c =
    let it = c.self.inside in
    let long : length c.args.self.now ≡ it.len = sym (ap length c.self.view_is) ∙ length-bytes_of it.len it.words in
    let inside : c.args.at + c.args.n ≤ it.len = omega (arith, long, c.requires.inside) in
    let four : c.args.n ≡ 4 = omega (arith, c.requires.one, c.if-n-lt4.false) in
    let known : c.get-word.result < 2 ^ 32 = omega (arith, c.get-word.type_inv) in
    let small : get_or it.words (c.args.at / 4) 0 < 2 ^ 32 = subst (λ x. x < 2 ^ 32) c.get-word.ensures known in
    c.get-word.ensures
    ∙ sym (whole-is it.len it.words c.args.at c.args.n c.requires.one inside four small)
    ∙ ap (λ xs. word_of (λ i. get_or xs i 0) c.args.at c.args.n) c.self.view_is
