use Rattle.std.proofs.Common.{◌+◌, ◌≤◌, [], ◌∷◌, Some, ap, sym, ◌∙◌, arith, length, take}
use Rattle.std.proofs.lemmas.List.{length-append}
use Rattle.std.specs.Option.{option_map}
use Rattle.std.specs.Prelude.{not}
use Rattle.flat_model.specs.declared.events.Frames.{Frames}
use Rattle.flat_model.specs.Pages.{frames_of, free_frames}
use Rattle.flat_model.proofs.FreeFrames.{found_enough, found_one, next_is_free, next_is_owned}
use Rattle.flat_model.proofs.pages.least_free.Goals as goal
use Rattle.flat_model.proofs.pages.least_free.Goals.{then-is_none, else-is_none}

pub returns-then-frames-n : goal.returns-then-frames-n
returns-then-frames-n c =
    ap (λ (f : Frames). Some f) c.loop-frame.invariant.so_far
    ∙ sym (ap (option_map frames_of) (found_enough c.args.n c.loop-frame.frame c.args.owners.now
    (ap (λ (f : Frames). f.n) (sym c.loop-frame.invariant.so_far) ∙ c.if-frames-n.true)))

pub loop-frame-preserved : goal.loop-frame-preserved
loop-frame-preserved c = elim c.if-is_none.branch [
  | then-is_none w ↦
      let fs = free_frames 0 (take c.loop-frame.frame c.args.owners.now) in
      let more = next_is_free c.args.owners.now c.loop-frame.frame c.loop-frame-test.true
      (c.is_none.ensures ∙ ap not w.if-is_none.true) in
      let count = ap (λ (f : Frames). f.n) c.loop-frame.invariant.so_far in
      let below : length fs + 1 ≤ c.args.n =
      omega (arith, c.loop-frame.invariant.few, c.if-frames-n.false, count) in
      record {
        so_far = w.frames-is ∙ found_one c.loop-frame.frames fs
            (free_frames 0 (take (c.loop-frame.frame + 1) c.args.owners.now)) c.loop-frame.frame
            c.loop-frame.invariant.so_far more (omega (arith, below, c.requires.few));
        few = omega (arith, below, ap length more, length-append fs (c.loop-frame.frame ∷ []));
      }
  | else-is_none w ↦
      let same = next_is_owned c.args.owners.now c.loop-frame.frame c.loop-frame-test.true
      (c.is_none.ensures ∙ ap not w.if-is_none.false) in
      record {
        so_far = w.frames-is ∙ c.loop-frame.invariant.so_far ∙ ap frames_of (sym same);
        few = omega (arith, c.loop-frame.invariant.few, ap length same);
      }
]
