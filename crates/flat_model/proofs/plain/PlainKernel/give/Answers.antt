use Rattle.std.proofs.Common.{Some, ap, ◌∙◌, length}
use Rattle.flat_model.proofs.FreeFrames.{length-with_owner}
use Rattle.flat_model.proofs.plain.PlainKernel.give.Goals as goal

pub invariant_of-self : goal.invariant_of-self
invariant_of-self c =
    let i = c.self.invariant in (
      i.0,
      i.1,
      i.2,
      i.3,
      i.4,
      ap length c.give_frames.ensures
          ∙ length-with_owner (Some c.args.b) c.args.frames.now c.self.inside.owners ∙ i.5,
      i.6,
    )
