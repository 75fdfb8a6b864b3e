use Rattle.std.proofs.Common.{◌≡◌, ◌<◌, ◌≤◌, length, Some, refl, sym, ◌∙◌, ap, subst, arith, length-set}
use Rattle.std.specs.List.{slice_get}
use Rattle.std.proofs.lemmas.Option.{slice_get_read}
use Rattle.flat_model.specs.Interrupts.{has_line}
use Rattle.irq_owner.proofs.OwnedLemmas.{owned_more}
use Rattle.irq_owner.proofs.owned.owned_words.Goals as goal

pub loop-b-preserved : goal.loop-b-preserved
loop-b-preserved c =
    let items = c.as_slice-part-items.result.now in
    let found : slice_get items c.loop-b.b ≡ Some c.part-item.result =
    slice_get_read items (length items) c.loop-b.b c.part-item.result refl (omega arith) c.part-item.is in
    let few : length items ≤ 8 = subst (λ xs. length xs ≤ 8) (sym c.as_slice-part-items.ensures) c.requires.limits.boxes in
    let room : c.loop-b.b < length c.loop-b.owned = omega (arith, few, c.loop-b.invariant.room, c.loop-b-test.true) in
    record {
      room = length-set c.loop-b.owned c.loop-b.b c.word_of.result ∙ c.loop-b.invariant.room;
      words = owned_more c.args.cfg.now c.loop-b.owned c.loop-b.b c.word_of.result c.part-item.result room
          (ap (λ xs. slice_get xs c.loop-b.b) (sym c.as_slice-part-items.ensures) ∙ found)
          c.loop-b.invariant.words (λ line. c.word_of.ensures line ∙ ap (has_line line) c.as_slice.ensures);
    }
