use Rattle.std.proofs.Common.{◌≡◌, ◌*◌, ◌<◌, length, set, sym, ap, ◌∙◌, arith}
use Rattle.phys_memory.proofs.PieceLemmas.{length-words_of, put-words, word-there}
use Rattle.phys_memory.proofs.pieces.Pieces.put.Goals as goal

pub unmark-requires-clause-piece : goal.unmark-requires-clause-piece
unmark-requires-clause-piece c =
    let it = c.self.inside in
    let long : length c.args.self.now ≡ 8 * length it.zeros.items = sym (ap length c.self.view_is) ∙ length-words_of it.words.items it.zeros.items in
    omega (arith, long, c.requires)

pub index_mut-requires : goal.index_mut-requires
index_mut-requires c =
    omega (
      arith,
      word-there c.unmark.new.words.items c.unmark.new.zeros.items c.unmark.new.words.cap c.args.k c.unmark.ensures.packed c.unmark.ensures.off,
      c.unmark.new.words.ok.0,
    )

pub returns : goal.returns
returns c =
    let it = c.self.inside in
    let long : length c.args.self.now ≡ 8 * length it.zeros.items = sym (ap length c.self.view_is) ∙ length-words_of it.words.items it.zeros.items in
    let all : 8 * length c.unmark.new.zeros.items ≡ 8 * length it.zeros.items =
    sym (length-words_of c.unmark.new.words.items c.unmark.new.zeros.items) ∙ ap length c.unmark.ensures.same ∙ length-words_of it.words.items it.zeros.items in
    let below : c.args.k < 8 * length c.unmark.new.zeros.items = omega (arith, long, all, c.requires) in
    put-words c.unmark.new.words.items c.unmark.new.zeros.items c.unmark.new.words.cap c.args.k c.args.word c.unmark.ensures.packed c.unmark.ensures.off below
    ∙ ap (λ xs. set xs c.args.k c.args.word) (c.unmark.ensures.same ∙ c.self.view_is)
