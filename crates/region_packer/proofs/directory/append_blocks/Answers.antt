use Rattle.std.proofs.Common.{◌≡◌, ◌<◌, List, Some, slice_index_or, sym, ◌∙◌, ap}
use Rattle.std.specs.List.{slice_get}
use Rattle.std.proofs.lemmas.Option.{slice_get-get_or}
use Rattle.addr_base.specs.declared.pairs.Pair.{Pair}
use Rattle.flat_model.specs.Cover.{cover_of}
use Rattle.flat_model.specs.Decision.{size_field}
use Rattle.flat_model.proofs.Elements.{each-get}
use Rattle.region_packer.proofs.Ascending.{each_small}
use Rattle.region_packer.proofs.directory.append_blocks.Goals as goal

pub block_of-requires : goal.block_of-requires
block_of-requires c =
    let pairs : List Pair = c.as_slice-pair-items.result.now in
    let default : Pair = record { rbar = 0; rasr = 0 } in
    let all : pairs ≡ cover_of c.args.grant.now.range c.args.grant.now.rights = c.as_slice-pair-items.ensures.value ∙ c.cover.ensures.exact in
    let found : slice_get pairs c.loop-pair.pair-index ≡ Some (slice_index_or pairs c.loop-pair.pair-index default) =
    slice_get-get_or pairs c.loop-pair.pair-index default c.loop-pair-test.true in
    each-get (λ p. size_field p < 31) (cover_of c.args.grant.now.range c.args.grant.now.rights) c.loop-pair.pair-index (slice_index_or pairs c.loop-pair.pair-index default)
    (each_small c.args.grant.now c.requires) (ap (λ ps. slice_get ps c.loop-pair.pair-index) (sym all) ∙ found)
