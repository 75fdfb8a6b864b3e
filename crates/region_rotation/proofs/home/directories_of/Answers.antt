use Rattle.std.proofs.Common.{◌≡◌, ◌+◌, length, Some, refl, sym, ◌∙◌, ap, subst, arith}
use Rattle.std.specs.List.{AllByRecursion, slice_get}
use Rattle.std.specs.List.Sorted.{IsPermutation}
use Rattle.std.proofs.lemmas.Option.{slice_get_read}
use Rattle.flat_model.proofs.Elements.{each-get}
use Rattle.region_packer.specs.Directory.{IsCoverable, grant_blocks}
use Rattle.region_rotation.proofs.Answering.{AnswersFor-directory, AreDirectories-listed, IsListed, IsListed-more}
use Rattle.region_rotation.proofs.Homes.{IsMakable, each_makable}
use Rattle.region_rotation.proofs.home.directories_of.Goals as goal

pub new-requires-clause-covered : goal.new-requires-clause-covered
new-requires-clause-covered c =
    let found : slice_get c.as_slice-part-items.result.now c.loop-part.part-index ≡ Some c.part-item.result =
    slice_get_read c.as_slice-part-items.result.now (length c.as_slice-part-items.result.now) c.loop-part.part-index c.part-item.result refl (omega arith) c.part-item.is in
    subst (AllByRecursion IsCoverable) (sym c.as_vec.ensures)
    (each-get (IsMakable c.args.cfg.now) c.args.cfg.now.boxes c.loop-part.part-index c.part-item.result (each_makable c.args.cfg.now c.requires)
    (ap (λ xs. slice_get xs c.loop-part.part-index) (sym c.as_slice-part-items.ensures) ∙ found)).grants

pub loop-part-preserved : goal.loop-part-preserved
loop-part-preserved c =
    let found : slice_get c.as_slice-part-items.result.now c.loop-part.part-index ≡ Some c.part-item.result =
    slice_get_read c.as_slice-part-items.result.now (length c.as_slice-part-items.result.now) c.loop-part.part-index c.part-item.result refl (omega arith) c.part-item.is in
    let makable = each-get (IsMakable c.args.cfg.now) c.args.cfg.now.boxes c.loop-part.part-index c.part-item.result (each_makable c.args.cfg.now c.requires)
    (ap (λ xs. slice_get xs c.loop-part.part-index) (sym c.as_slice-part-items.ensures) ∙ found) in
    let same : IsPermutation (grant_blocks c.part-item.result.grants) c.in_ok-new.field-0.blocks =
    subst (λ gs. IsPermutation (grant_blocks gs) c.in_ok-new.field-0.blocks) c.as_vec.ensures c.in_ok-new.ensures.blocks in
    subst (λ ds. IsListed c.as_slice-part-items.result.now ds (c.loop-part.part-index + 1)) (sym c.in_ok-push.ensures.items)
    (IsListed-more c.as_slice-part-items.result.now c.loop-part.directories.items c.loop-part.part-index c.part-item.result c.in_ok-new.field-0 c.loop-part.invariant found
    (AnswersFor-directory c.part-item.result.grants c.in_ok-new.field-0.blocks makable.grants same c.in_ok-new.ensures.ascending))

pub returns : goal.returns
returns c =
    let all : c.loop-part.part-index ≡ length c.args.cfg.now.boxes =
    omega (arith, ap length c.as_slice-part-items.ensures, c.loop-part-test.false, c.loop-part.auto.part-index-end) in
    AreDirectories-listed c.args.cfg.now c.loop-part.directories.items
    (subst (λ n. IsListed c.args.cfg.now.boxes c.loop-part.directories.items n) all
    (subst (λ ps. IsListed ps c.loop-part.directories.items c.loop-part.part-index) c.as_slice-part-items.ensures c.loop-part.invariant))
