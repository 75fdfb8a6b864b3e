use Rattle.std.proofs.Common.{◌≡◌, true, replicate, ap, ◌∙◌}
use Rattle.phys_memory.specs.Packed.{words_of}
use Rattle.phys_memory.proofs.PieceLemmas.{blank-words}
use Rattle.phys_memory.proofs.pieces.Pieces.blank.Goals as goal

pub returns : goal.returns
returns c =
    let marks : c.in_ok-zeros.zeros.items ≡ replicate c.args.pieces true = c.in_ok-zeros.ensures.items_if_clones_equal (λ y same. same) in
    ap (words_of c.in_ok-words.words.items) marks ∙ blank-words c.in_ok-words.words.items c.args.pieces
