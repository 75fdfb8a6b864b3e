use Rattle.std.proofs.Common.{◌≡◌, ℕ, ◌+◌, ◌-◌, ◌^◌, ◌<◌, ◌≤◌, sym, ap, ◌∙◌, arith}
use Rattle.phys_memory.specs.Packed.{low, mixed, raised, shifted}
use Rattle.phys_memory.proofs.ByteLemmas.{mixed-small, mixed-sum, raised-least}
use Rattle.phys_memory.proofs.bytes.mixed.Goals as goal

total : (word j n value s l o k m : ℕ) → s ≡ shifted word j → l ≡ low s n → o ≡ raised l j → k ≡ low value n → m ≡ raised k j →
    (o ≤ word) × (word - o + m ≡ mixed word j n value)
total word j n value s l o k m s-is l-is o-is k-is m-is =
    let old : o ≡ raised (low (shifted word j) n) j = o-is ∙ ap (λ x. raised x j) (l-is ∙ ap (λ x. low x n) s-is) in
    let new : m ≡ raised (low value n) j = m-is ∙ ap (λ x. raised x j) k-is in (
      omega (arith, old, raised-least word j n),
      ap (λ x. word - x + m) old ∙ ap (λ x. word - raised (low (shifted word j) n) j + x) new ∙ sym (mixed-sum word j n value),
    )

pub overflow_sub-result : goal.overflow_sub-result
overflow_sub-result c =
    (total c.args.word c.args.j c.args.n c.args.value c.shifted.result c.low.result c.raised-old.result c.low-2.result c.raised-new.result
    c.shifted.ensures c.low.ensures c.raised-old.ensures c.low-2.ensures c.raised-new.ensures).0

pub overflow_add-result : goal.overflow_add-result
overflow_add-result c =
    let small : c.args.word < 2 ^ 32 = omega arith in
    let all = total c.args.word c.args.j c.args.n c.args.value c.shifted.result c.low.result c.raised-old.result c.low-2.result c.raised-new.result
    c.shifted.ensures c.low.ensures c.raised-old.ensures c.low-2.ensures c.raised-new.ensures in
    omega (arith, all.1, mixed-small c.args.word c.args.j c.args.n c.args.value small c.requires.last)

pub overflow_cast-result-2 : goal.overflow_cast-result-2
overflow_cast-result-2 c =
    let small : c.args.word < 2 ^ 32 = omega arith in
    let all = total c.args.word c.args.j c.args.n c.args.value c.shifted.result c.low.result c.raised-old.result c.low-2.result c.raised-new.result
    c.shifted.ensures c.low.ensures c.raised-old.ensures c.low-2.ensures c.raised-new.ensures in
    omega (arith, all.1, mixed-small c.args.word c.args.j c.args.n c.args.value small c.requires.last)

pub returns : goal.returns
returns c =
    (total c.args.word c.args.j c.args.n c.args.value c.shifted.result c.low.result c.raised-old.result c.low-2.result c.raised-new.result
    c.shifted.ensures c.low.ensures c.raised-old.ensures c.low-2.ensures c.raised-new.ensures).1
