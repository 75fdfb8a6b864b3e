use Rattle.std.proofs.Common.{◌+◌, ◌<◌, Option, None, List, length, slice_set, sym, ap, ◌∙◌, arith}
use Rattle.addr_base.specs.declared.identity.BoxId.{BoxId}
use Rattle.flat_model.specs.Pages.{free_frames}
use Rattle.index_list.specs.Arena.{ArenaView, list_at, list_with, without_node}
use Rattle.index_list.proofs.Alone.{taken_alone}
use Rattle.index_list.proofs.Walks.{list_with-some}
use Rattle.page_heap.specs.Listed.{with_free}
use Rattle.page_heap.proofs.ListedFrames.{IsListed-freed, IsListed-now, free_kept, length-freed, owned_at}
use Rattle.page_heap.proofs.lists.take_back.Goals as goal

pub remove-requires : goal.remove-requires
remove-requires c =
    let small : c.args.b.0 < 256 = omega arith in
    list_with-some c.args.frames.now.lists c.args.b.0 c.args.frame
    (c.requires.listed.owned c.args.b.0 c.args.frame small ∙ c.requires.owned)

pub put_in_place-requires-clause-counted : goal.put_in_place-requires-clause-counted
put_in_place-requires-clause-counted c =
    c.requires.counted
    ∙ ap length (sym (free_kept c.args.owners.now c.args.frames.now c.args.b.0 c.args.frame c.requires.listed c.requires.owned))
    ∙ ap (λ (v : ArenaView). length (list_at v.lists 256)) (sym c.remove.ensures)

pub put_in_place-requires-clause-within : goal.put_in_place-requires-clause-within
put_in_place-requires-clause-within c =
    let own = owned_at c.args.owners.now c.args.b.0 c.args.frame c.requires.owned in
    omega (arith, own.2, c.requires.listed.one_each, ap (λ (v : ArenaView). v.nodes) c.remove.ensures)

pub put_in_place-requires-clause-alone : goal.put_in_place-requires-clause-alone
put_in_place-requires-clause-alone c =
    ap (λ (v : ArenaView). list_with v.lists c.args.frame) c.remove.ensures
    ∙ taken_alone c.args.frames.now.lists c.args.frame

pub returns-clause-listed : goal.returns-clause-listed
returns-clause-listed c =
    let arena = c.put_in_place.ensures ∙ ap (λ (a : ArenaView). with_free a c.args.frame) c.remove.ensures in
    IsListed-now (slice_set c.args.owners.now c.args.frame None) c.put.new.self
    (with_free (without_node c.args.frames.now c.args.frame) c.args.frame) c.put_in_place.new.frames c.put.ensures arena
    (IsListed-freed c.args.owners.now c.args.frames.now c.args.b.0 c.args.frame c.requires.listed c.requires.owned)

pub returns-clause-counted : goal.returns-clause-counted
returns-clause-counted c =
    ap (λ (os : List (Option BoxId)). length (free_frames 0 os)) c.put.ensures
    ∙ length-freed c.args.owners.now c.args.b.0 c.args.frame c.requires.owned ∙ ap (λ n. n + 1) (sym c.requires.counted)
