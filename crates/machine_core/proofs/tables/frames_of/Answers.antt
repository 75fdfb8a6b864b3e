use Rattle.std.proofs.Common.{length, replicate, ◌++◌, drop, ap, ◌∙◌}
use Rattle.flat_model.specs.declared.events.Frames.{Frames}
use Rattle.machine_core.proofs.PartLemmas.{frames-filled}
use Rattle.machine_core.proofs.tables.frames_of.Goals as goal

pub returns : goal.returns
returns c =
    let n = length c.args.frames.now in
    let told : _ → Frames = λ xs. record { n = n; list = xs } in
    ap (λ xs. told (xs ++ drop n (replicate 16 0))) c.copy_from_slice.ensures.after
    ∙ ap told (frames-filled c.args.frames.now c.requires)
