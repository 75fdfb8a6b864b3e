use Rattle.std.proofs.Common.{◌≡◌, ℕ, ◌*◌, ◌<◌, ◌≤◌, ◌⊎◌, true, length, get_or, sym, ap, ◌∙◌, arith}
use Rattle.std.specs.Vec.{with_items}
use Rattle.std.proofs.lemmas.List.{with_items_is}
use Rattle.phys_memory.specs.Packed.{words_of}
use Rattle.phys_memory.proofs.PieceLemmas.{length-words_of, marked-inside, marked-others}
use Rattle.phys_memory.proofs.pieces.Pieces.clear.Goals as goal

pub mark-requires-clause-within : goal.mark-requires-clause-within
mark-requires-clause-within c =
    let it = c.self.inside in
    let long : length c.args.self.now ≡ 8 * length it.zeros.items = sym (ap length c.self.view_is) ∙ length-words_of it.words.items it.zeros.items in
    omega (arith, long, c.requires.within, ap length c.as_mut_slice.ensures.value)

pub returns-clause-len : goal.returns-clause-len
returns-clause-len c =
    let it = c.self.inside in
    let items : (with_items it.zeros c.mark.new.zeros).items ≡ c.mark.new.zeros = with_items_is it.zeros c.mark.new.zeros (omega (arith, c.mark.auto.zeros, ap length c.as_mut_slice.ensures.value, it.zeros.ok.0)) in
    ap (λ marks. length (words_of it.words.items marks)) items
    ∙ length-words_of it.words.items c.mark.new.zeros
    ∙ ap (λ n. 8 * n) (c.mark.auto.zeros ∙ ap length c.as_mut_slice.ensures.value)
    ∙ sym (length-words_of it.words.items it.zeros.items)
    ∙ ap length c.self.view_is

pub returns-clause-inside : goal.returns-clause-inside
returns-clause-inside c = λ k low high.
    let it = c.self.inside in
    let all : length c.args.self.now ≡ 8 * length it.zeros.items = sym (ap length c.self.view_is) ∙ length-words_of it.words.items it.zeros.items in
    let long : length c.mark.new.zeros ≡ length it.zeros.items = c.mark.auto.zeros ∙ ap length c.as_mut_slice.ensures.value in
    let order : c.args.to ≤ length it.zeros.items = omega (arith, all, c.requires.within) in
    let items : (with_items it.zeros c.mark.new.zeros).items ≡ c.mark.new.zeros = with_items_is it.zeros c.mark.new.zeros (omega (arith, long, it.zeros.ok.0)) in
    let others : (p : ℕ) → (p < c.args.from) ⊎ (c.args.to ≤ p) → get_or c.mark.new.zeros p true ≡ get_or it.zeros.items p true =
    λ p apart. c.mark.ensures.others p apart ∙ ap (λ xs. get_or xs p true) c.as_mut_slice.ensures.value in
    ap (λ marks. get_or (words_of it.words.items marks) k 0) items
    ∙ marked-inside it.words.items it.zeros.items c.mark.new.zeros it.words.cap c.args.from c.args.to c.self.invariant long order c.mark.ensures.inside others k low high

pub returns-clause-others : goal.returns-clause-others
returns-clause-others c = λ k away.
    let it = c.self.inside in
    let all : length c.args.self.now ≡ 8 * length it.zeros.items = sym (ap length c.self.view_is) ∙ length-words_of it.words.items it.zeros.items in
    let long : length c.mark.new.zeros ≡ length it.zeros.items = c.mark.auto.zeros ∙ ap length c.as_mut_slice.ensures.value in
    let order : c.args.to ≤ length it.zeros.items = omega (arith, all, c.requires.within) in
    let items : (with_items it.zeros c.mark.new.zeros).items ≡ c.mark.new.zeros = with_items_is it.zeros c.mark.new.zeros (omega (arith, long, it.zeros.ok.0)) in
    let others : (p : ℕ) → (p < c.args.from) ⊎ (c.args.to ≤ p) → get_or c.mark.new.zeros p true ≡ get_or it.zeros.items p true =
    λ p apart. c.mark.ensures.others p apart ∙ ap (λ xs. get_or xs p true) c.as_mut_slice.ensures.value in
    ap (λ marks. get_or (words_of it.words.items marks) k 0) items
    ∙ marked-others it.words.items it.zeros.items c.mark.new.zeros it.words.cap c.args.from c.args.to c.self.invariant long order c.mark.ensures.inside others k away
    ∙ ap (λ xs. get_or xs k 0) c.self.view_is
