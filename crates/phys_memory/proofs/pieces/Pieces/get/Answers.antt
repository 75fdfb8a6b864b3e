use Rattle.std.proofs.Common.{◌≡◌, ◌*◌, ◌/◌, ◌<◌, true, false, length, get_or, sym, ap, ◌∙◌, arith}
use Rattle.std.proofs.lemmas.List.{get_or_read}
use Rattle.phys_memory.proofs.PieceLemmas.{length-words_of, word-marked, word-there, word-unmarked}
use Rattle.phys_memory.proofs.pieces.Pieces.get.Goals as goal

pub index-requires : goal.index-requires
index-requires c =
    let it = c.self.inside in
    let long : length c.args.self.now ≡ 8 * length it.zeros.items = sym (ap length c.self.view_is) ∙ length-words_of it.words.items it.zeros.items in
    omega (arith, long, c.requires, it.zeros.ok.0)

pub index-requires-else-index : goal.index-requires-else-index
index-requires-else-index c =
    let it = c.self.inside in
    let long : length c.args.self.now ≡ 8 * length it.zeros.items = sym (ap length c.self.view_is) ∙ length-words_of it.words.items it.zeros.items in
    let place : c.args.k / 8 < length it.zeros.items = omega (arith, long, c.requires) in
    let off : get_or it.zeros.items (c.args.k / 8) true ≡ false = sym (get_or_read it.zeros.items (c.args.k / 8) c.index.result.now place c.index.ensures true) ∙ c.if-index.false in
    omega (arith, word-there it.words.items it.zeros.items it.words.cap c.args.k c.self.invariant off, it.words.ok.0)

pub returns-then-index : goal.returns-then-index
returns-then-index c =
    let it = c.self.inside in
    let long : length c.args.self.now ≡ 8 * length it.zeros.items = sym (ap length c.self.view_is) ∙ length-words_of it.words.items it.zeros.items in
    let place : c.args.k / 8 < length it.zeros.items = omega (arith, long, c.requires) in
    let below : c.args.k < 8 * length it.zeros.items = omega (arith, long, c.requires) in
    let on : get_or it.zeros.items (c.args.k / 8) true ≡ true = sym (get_or_read it.zeros.items (c.args.k / 8) c.index.result.now place c.index.ensures true) ∙ c.if-index.true in
    sym (sym (ap (λ xs. get_or xs c.args.k 0) c.self.view_is) ∙ word-marked it.words.items it.zeros.items c.args.k below on)

pub returns-else-index : goal.returns-else-index
returns-else-index c =
    let it = c.self.inside in
    let long : length c.args.self.now ≡ 8 * length it.zeros.items = sym (ap length c.self.view_is) ∙ length-words_of it.words.items it.zeros.items in
    let place : c.args.k / 8 < length it.zeros.items = omega (arith, long, c.requires) in
    let below : c.args.k < 8 * length it.zeros.items = omega (arith, long, c.requires) in
    let off : get_or it.zeros.items (c.args.k / 8) true ≡ false = sym (get_or_read it.zeros.items (c.args.k / 8) c.index.result.now place c.index.ensures true) ∙ c.if-index.false in
    let there : c.args.k < length it.words.items = word-there it.words.items it.zeros.items it.words.cap c.args.k c.self.invariant off in
    get_or_read it.words.items c.args.k c.index-else-index.result.now there c.index-else-index.ensures 0
    ∙ sym (word-unmarked it.words.items it.zeros.items c.args.k below off)
    ∙ ap (λ xs. get_or xs c.args.k 0) c.self.view_is
