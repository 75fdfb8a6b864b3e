use Rattle.std.proofs.Common.{◌≡◌, ◌+◌, ◌<◌, true, Some, drop, sym, ap, ◌∙◌, subst, slice_index_or}
use Rattle.std.proofs.lemmas.List.{at_drop_more}
use Rattle.std.proofs.lemmas.Option.{slice_get-get_or}
use Rattle.addr_base.specs.declared.ranges.Range.{Range}
use Rattle.flat_model.proofs.Elements.{each-get}
use Rattle.phys_memory.specs.Banks.{lies_in_one_bank, with_zeros}
use Rattle.page_heap.specs.Heap.{with_blank}
use Rattle.page_heap.proofs.PageBytes.{blank_first, page_in_bank}
use Rattle.page_heap.proofs.frames.blank.Goals as goal

-- src/frames.rt:59:9
pub zero-requires : goal.zero-requires
zero-requires c =
    let frame = slice_index_or c.args.frames.now c.loop-frame.frame-index 0 in
    let below : frame < c.args.heap.count =
    each-get (λ f. f < c.args.heap.count) c.args.frames.now c.loop-frame.frame-index frame c.requires.within
    (slice_get-get_or c.args.frames.now c.loop-frame.frame-index 0 c.loop-frame-test.true) in
    subst (λ board. lies_in_one_bank board c.page_range.result ≡ true) (sym c.loop-frame.invariant.board)
    (subst (λ (range : Range). lies_in_one_bank c.args.banks.now.board range ≡ true) (sym c.page_range.ensures)
    (page_in_bank c.args.banks.now.board c.args.heap frame below c.requires.placed))

-- src/frames.rt:58:5
pub loop-frame-preserved : goal.loop-frame-preserved
loop-frame-preserved c =
    let banks = c.loop-frame.banks in
    let later = drop (c.loop-frame.frame-index + 1) c.args.frames.now in
    record {
      board = ap (λ b. b.board) c.zero.ensures ∙ c.loop-frame.invariant.board;
      left =
          ap (λ b. with_blank b (Some c.args.heap) later) (c.zero.ensures ∙ ap (with_zeros banks) c.page_range.ensures)
          ∙ sym (blank_first banks c.args.heap (slice_index_or c.args.frames.now c.loop-frame.frame-index 0) later)
          ∙ sym (at_drop_more (with_blank banks (Some c.args.heap)) c.args.frames.now c.loop-frame.frame-index 0 c.loop-frame-test.true)
          ∙ c.loop-frame.invariant.left;
    }
