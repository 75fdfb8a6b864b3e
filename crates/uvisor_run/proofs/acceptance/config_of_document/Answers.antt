use Rattle.toml.specs.View.{table_view}
use Rattle.acl_resolver.proofs.Readable.{resolvable}
use Rattle.uvisor_run.proofs.acceptance.config_of_document.Goals as goal

-- src/acceptance.rt:88:5
pub resolve_parts-requires : goal.resolve_parts-requires
resolve_parts-requires c =
    resolvable (table_view c.args.document.now) c.in_ok-board.board c.in_ok-boxes.boxes.items
    c.in_ok-keep_shape.ensures.ok c.in_ok-board.ensures.ok c.in_ok-boxes.ensures.ok
