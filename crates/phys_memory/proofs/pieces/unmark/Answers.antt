use Rattle.std.proofs.Common.{◌≡◌, ℕ, ◌+◌, ◌*◌, ◌<◌, ◌≤◌, ◌++◌, ◌⊎◌, List, true, false, length, get_or, set, take, drop, sym, ap, ◌∙◌, arith}
use Rattle.std.proofs.lemmas.List.{append-nil, drop_all, get_or_read, take_all}
use Rattle.phys_memory.specs.Packed.{words_of}
use Rattle.phys_memory.proofs.PieceLemmas.{unmarked-words}
use Rattle.phys_memory.proofs.pieces.unmark.Goals as goal

-- a list that was written as a whole slice is that slice
whole : (n : ℕ) (ws xs : List ℕ) → length ws ≡ length xs → n ≡ length xs → take n (ws ++ drop (length ws) xs) ≡ ws
whole n ws xs same all =
    ap (λ ys. take n (ws ++ ys)) (drop_all (length ws) xs (omega (arith, same)))
    ∙ ap (take n) (append-nil ws) ∙ take_all n ws (omega (arith, same, all))

pub returns-then-index-clause-same : goal.returns-then-index-clause-same
returns-then-index-clause-same c =
    let marked = sym (get_or_read c.args.zeros.now.items c.args.piece c.index.result.now c.requires.piece c.index.ensures true) ∙ c.if-index.true in
    let same : length c.clear_words.new.words ≡ length c.lengthen.new.words.items = c.clear_words.auto.words ∙ ap length c.as_mut_slice.ensures.value in
    let long : 8 * c.args.piece + 8 ≤ length c.clear_words.new.words = omega (arith, same, c.lengthen.ensures.long) in
    let grown : length c.args.words.now.items ≤ length c.clear_words.new.words = omega (arith, same, c.lengthen.ensures.grown) in
    let more : c.args.words.now.cap ≤ c.args.words.now.cap = omega arith in
    let others : (k : ℕ) → (k < 8 * c.args.piece) ⊎ (8 * c.args.piece + 8 ≤ k) → get_or c.clear_words.new.words k 0 ≡ get_or c.args.words.now.items k 0 =
    λ k apart. c.clear_words.ensures.others k apart ∙ ap (λ xs. get_or xs k 0) c.as_mut_slice.ensures.value ∙ c.lengthen.ensures.same k in
    ap (λ ws. words_of ws (set c.args.zeros.now.items c.args.piece false))
    (whole c.lengthen.new.words.len c.clear_words.new.words c.lengthen.new.words.items same c.lengthen.new.words.ok.0)
    ∙ unmarked-words c.args.words.now.items c.clear_words.new.words c.args.zeros.now.items c.args.words.now.cap c.args.words.now.cap c.args.piece
    c.requires.packed c.requires.piece marked more long grown c.clear_words.ensures.inside others
