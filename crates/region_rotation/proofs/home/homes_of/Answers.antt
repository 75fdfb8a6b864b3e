use Rattle.std.proofs.Common.{◌≡◌, length, Some, refl, sym, ◌∙◌, ap, arith}
use Rattle.std.specs.List.{slice_get}
use Rattle.std.proofs.lemmas.Option.{slice_get_read}
use Rattle.flat_model.proofs.Elements.{each-get}
use Rattle.region_rotation.proofs.Homes.{IsMakable, each_makable}
use Rattle.region_rotation.proofs.home.homes_of.Goals as goal

pub home_of-requires-clause-own : goal.home_of-requires-clause-own
home_of-requires-clause-own c =
    let found : slice_get c.as_slice-part-items.result.now c.loop-part.part-index ≡ Some c.part-item.result =
    slice_get_read c.as_slice-part-items.result.now (length c.as_slice-part-items.result.now) c.loop-part.part-index c.part-item.result refl (omega arith) c.part-item.is in
    (each-get (IsMakable c.args.cfg.now) c.args.cfg.now.boxes c.loop-part.part-index c.part-item.result (each_makable c.args.cfg.now c.requires)
    (ap (λ xs. slice_get xs c.loop-part.part-index) (sym c.as_slice-part-items.ensures) ∙ found)).own

pub home_of-requires-clause-grants : goal.home_of-requires-clause-grants
home_of-requires-clause-grants c =
    let found : slice_get c.as_slice-part-items.result.now c.loop-part.part-index ≡ Some c.part-item.result =
    slice_get_read c.as_slice-part-items.result.now (length c.as_slice-part-items.result.now) c.loop-part.part-index c.part-item.result refl (omega arith) c.part-item.is in
    (each-get (IsMakable c.args.cfg.now) c.args.cfg.now.boxes c.loop-part.part-index c.part-item.result (each_makable c.args.cfg.now c.requires)
    (ap (λ xs. slice_get xs c.loop-part.part-index) (sym c.as_slice-part-items.ensures) ∙ found)).grants
